-- The bars of the stretches of threads: each stretch of which a tick is drawn is one rectangle, which begins at its first tick,
-- is as long as its ticks, and has the class and the height of what the thread does.
-- Source: this project's own.
use Rattle.std.specs.Prelude.{ℕ, ◌+◌, ◌-◌, ◌*◌, ◌/◌, Bool, false, ◌&&◌, ◌==◌, nat_lt, nat_le, List, [], ◌++◌, length, codes, decimal, if◌then◌else◌}
use Rattle.sd_types.specs.declared.numbers.CpuId.{CpuId}
use Rattle.sd_types.specs.declared.works.Work.{Work}
use Rattle.sd_state.specs.Texts.{chan_name, lock_name, thread_name}
use Rattle.sd_stretches.specs.declared.sights.Doing.{Doing}
use Rattle.sd_stretches.specs.declared.sights.Doing.TheVariants.{Running, Spinning, Runnable, Waiting, Asleep, Napping, Ended}
use Rattle.sd_stretches.specs.declared.rows.Stretch.{Stretch}
use Rattle.sd_stretches.specs.Doings.{doing_text}
use Rattle.sd_layout.specs.declared.layouts.Row.{Row}
use Rattle.sd_layout.specs.declared.layouts.Row.TheVariants.{Cpu, Thread}
use Rattle.sd_layout.specs.Layouts.{Layout, base, beside, column, inside, top, width}
use Rattle.sd_timeline.specs.declared.bars.Spot.{Spot}
use Rattle.sd_timeline.specs.Colours.{colour_name, colour_of, run_class, spin_class, texture_cover, texture_of}
use Rattle.sd_timeline.specs.Pieces.{bar_start, bar_end, cover, word_label, number_label}

-- what a thread does is told by the height and the pattern of its bar, and which thread it is by the colour
abbrev pub bar_class : ℕ → Doing → List ℕ
bar_class t (Running c) = run_class (colour_of t)
bar_class t (Spinning c l) = spin_class (colour_of t)
bar_class t Runnable = codes "ready"
bar_class t (Waiting l) = codes "wait"
bar_class t (Asleep k) = codes "sleep"
bar_class t Napping = codes "nap"
bar_class t Ended = codes "end"

-- how far the bar lies below the top of its row, and its height
abbrev pub bar_drop : Doing → ℕ
bar_drop (Running c) = 0
bar_drop (Spinning c l) = 0
bar_drop Runnable = 5
bar_drop (Waiting l) = 1
bar_drop (Asleep k) = 8
bar_drop Napping = 8
bar_drop Ended = 9

abbrev pub bar_height : Doing → ℕ
bar_height (Running c) = 18
bar_height (Spinning c l) = 18
bar_height Runnable = 8
bar_height (Waiting l) = 16
bar_height (Asleep k) = 3
bar_height Napping = 3
bar_height Ended = 1

-- from one number to another
unfoldable pub between : List ℕ → ℕ → ℕ → List ℕ
between word from to = (word ++ decimal from) ++ (codes " to " ++ decimal to)

unfoldable pub times_text : Stretch → List ℕ
times_text x = between (codes ", ticks ") x.from x.to

unfoldable pub place_text : Stretch → List ℕ
place_text x = times_text x ++ (codes ", priority " ++ decimal x.priority) ++ between (codes ", entries ") x.first x.last

-- what is shown on a bar
unfoldable pub stretch_title : Work → Stretch → List ℕ
stretch_title w x = thread_name w x.thread ++ codes ": " ++ doing_text w x.doing ++ place_text x

-- a word of so many letters fits into this width, with its plate
abbrev pub fits : ℕ → ℕ → Bool
fits len width = nat_lt 0 len && nat_le len ((width - 10) / 8)

-- where words stand on a bar
abbrev pub spot_of : Layout → Row → Stretch → Spot
spot_of f row x = record { plate = inside f x.from; words = beside f x.from; top = top f row + 2; base = base f row; width = width f x.from x.to }

-- the plain plate of so many letters
abbrev pub letter_ground : List ℕ → Spot → ℕ → List ℕ
letter_ground class p len = cover class p.plate p.top (8 * len + 6) 14

-- a word on its plate, where it fits
unfoldable pub word_on : List ℕ → List ℕ → Spot → List ℕ → List ℕ
word_on plate class p word = letter_ground plate p (length word) ++ word_label class p.words p.base word

abbrev pub word_text : List ℕ → List ℕ → Spot → List ℕ → List ℕ
word_text plate class p word = if fits (length word) p.width then word_on plate class p word else []

-- the processor on which a thread runs, as far as there is room for the word
unfoldable pub cpu_on : ℕ → Spot → ℕ → List ℕ → CpuId → List ℕ
cpu_on t p len word c = letter_ground (colour_name (colour_of t)) p len ++ number_label (codes "on") p.words p.base word c.0

abbrev pub cpu_word : ℕ → Spot → CpuId → List ℕ
cpu_word t p c = if fits 6 p.width then cpu_on t p 6 (codes "cpu ") c else if fits 2 p.width then cpu_on t p 2 [] c else []

-- in the row of a processor the thread
abbrev pub on_cpu_bar : Work → Spot → Stretch → Doing → List ℕ
on_cpu_bar w p x (Running c) = word_text (colour_name (colour_of x.thread)) (codes "on") p (thread_name w x.thread)
on_cpu_bar w p x _ = word_text (codes "plate") (codes "in") p (thread_name w x.thread)

-- in the row of a thread the processor, lock or channel
abbrev pub on_thread_bar : Work → Spot → ℕ → Doing → List ℕ
on_thread_bar w p t (Running c) = cpu_word t p c
on_thread_bar w p t (Spinning c l) = word_text (codes "plate") (codes "in") p (lock_name w l.0)
on_thread_bar w p t (Waiting l) = word_text (codes "plate") (codes "in") p (lock_name w l.0)
on_thread_bar w p t (Asleep k) = word_text (codes "plate") (codes "in") p (chan_name w k.0)
on_thread_bar w p t Ended = word_text (codes "plate") (codes "note") p (codes "ended")
on_thread_bar w p t _ = []

-- the number of a processor stands on a bar of a thread's row
abbrev pub has_number : ℕ → Doing → Bool
has_number width (Running c) = fits 2 width
has_number width _ = false

-- what stands on a bar
abbrev pub on_bar : Work → Layout → Row → Stretch → List ℕ
on_bar w f (Cpu c) x = on_cpu_bar w (spot_of f (Cpu c) x) x x.doing
on_bar w f (Thread t) x = on_thread_bar w (spot_of f (Thread t) x) x.thread x.doing

-- the texture of the thread, where it runs, and the upright where it has ended
abbrev pub over_bar : Layout → Row → Stretch → Doing → List ℕ
over_bar f row x (Running c) = texture_cover (texture_of x.thread) (column f x.from) (top f row) (width f x.from x.to) 18
over_bar f row x Ended = cover (codes "stop") (column f x.from) (top f row + 4) 2 10
over_bar f row x _ = []

-- the rectangle of a stretch in a row
unfoldable pub bar_box : Work → Layout → Row → Stretch → List ℕ
bar_box w f row x =
    bar_start (bar_class x.thread x.doing) (column f x.from) (top f row + bar_drop x.doing) (width f x.from x.to) (bar_height x.doing)
    ++ stretch_title w x ++ bar_end

unfoldable pub bar_text : Work → Layout → Row → Stretch → List ℕ
bar_text w f row x = bar_box w f row x ++ over_bar f row x x.doing ++ on_bar w f row x

-- none where no tick of it is drawn
abbrev pub stretch_bar : Work → Layout → Row → Stretch → List ℕ
stretch_bar w f row x = if width f x.from x.to == 0 then [] else bar_text w f row x

-- in the row of the processor on which the thread runs
abbrev pub run_bar_by : Work → Layout → Stretch → Doing → List ℕ
run_bar_by w f x (Running c) = stretch_bar w f (Cpu c.0) x
run_bar_by w f x (Spinning c l) = stretch_bar w f (Cpu c.0) x
run_bar_by w f x _ = []

abbrev pub run_bar : Work → Layout → Stretch → List ℕ
run_bar w f x = run_bar_by w f x x.doing
