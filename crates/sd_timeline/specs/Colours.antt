-- How threads are told apart: by one of eight colours, dark and middle ones in turn, and by a texture, which grey shows too. So the
-- first eight threads differ in grey, and so do the next eight; any 32 that follow one another differ in colour or texture.
-- Source: this project's own.
use Rattle.std.specs.Prelude.{ℕ, ◌+◌, ◌/◌, ◌%◌, ◌==◌, List, [], codes, if◌then◌else◌}
use Rattle.sd_timeline.specs.declared.colours.Colour.{Colour}
use Rattle.sd_timeline.specs.declared.colours.Colour.TheVariants.{Blue, Teal, Purple, Green, Slate, Pink, Brown, Sky}
use Rattle.sd_timeline.specs.declared.colours.Texture.{Texture}
use Rattle.sd_timeline.specs.declared.colours.Texture.TheVariants.{Plain, Dots, Rising, Falling}
use Rattle.sd_timeline.specs.Pieces.{cover}

abbrev pub colour_by : ℕ → Colour
colour_by n =
    if n == 0 then Blue else if n == 1 then Teal else if n == 2 then Purple else if n == 3 then Green
    else if n == 4 then Slate else if n == 5 then Pink else if n == 6 then Brown else Sky

-- the colour of thread t
unfoldable pub colour_of : ℕ → Colour
colour_of t = colour_by (t % 8)

-- the class of what is filled with a colour, of a bar of a thread that runs, and of one that spins
abbrev pub colour_name : Colour → List ℕ
colour_name Blue = codes "blue"
colour_name Teal = codes "teal"
colour_name Purple = codes "purple"
colour_name Green = codes "green"
colour_name Slate = codes "slate"
colour_name Pink = codes "pink"
colour_name Brown = codes "brown"
colour_name Sky = codes "sky"

abbrev pub run_class : Colour → List ℕ
run_class Blue = codes "run blue"
run_class Teal = codes "run teal"
run_class Purple = codes "run purple"
run_class Green = codes "run green"
run_class Slate = codes "run slate"
run_class Pink = codes "run pink"
run_class Brown = codes "run brown"
run_class Sky = codes "run sky"

abbrev pub spin_class : Colour → List ℕ
spin_class Blue = codes "blue-stripes"
spin_class Teal = codes "teal-stripes"
spin_class Purple = codes "purple-stripes"
spin_class Green = codes "green-stripes"
spin_class Slate = codes "slate-stripes"
spin_class Pink = codes "pink-stripes"
spin_class Brown = codes "brown-stripes"
spin_class Sky = codes "sky-stripes"

abbrev pub texture_by : ℕ → Texture
texture_by n = if n == 0 then Plain else if n == 1 then Dots else if n == 2 then Rising else Falling

-- the texture of thread t
unfoldable pub texture_of : ℕ → Texture
texture_of t = texture_by ((t / 2 + t / 8) % 4)

-- the texture over a bar of this place and size
abbrev pub texture_cover : Texture → ℕ → ℕ → ℕ → ℕ → List ℕ
texture_cover Plain x y width height = []
texture_cover Dots x y width height = cover (codes "dots") x y width height
texture_cover Rising x y width height = cover (codes "rising") x y width height
texture_cover Falling x y width height = cover (codes "falling") x y width height
