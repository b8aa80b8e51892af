-- The forms of the arguments of `dispview`.
-- Source: this project's own.
use Rattle.std.specs.Prelude.{ℕ, ◌&&◌, nat_lt, nat_le, List, [], ◌∷◌, length, codes, Option, Some, None, option_map, if◌then◌else◌}
use Rattle.sd_types.specs.Works.{same_bytes}
use Rattle.sd_types.specs.Limits.{greatest_limit, most_name_bytes}
use Rattle.sd_text.specs.Numbers.{number_of}
use Rattle.sd_story.specs.declared.selections.Selection.TheVariants.{Ticks, Thread}
use Rattle.sd_viewer.specs.declared.drawings.Drawing.{Drawing}
use Rattle.sd_viewer.specs.declared.drawings.Drawing.TheVariants.{Timeline, Trace, Story, Report, Sheet, Jobs}
use Rattle.sd_viewer.specs.declared.forms.Request.{Request}
use Rattle.sd_viewer.specs.declared.forms.Request.TheVariants.{Help, Draw}

-- no run has more ticks than 100,000
abbrev pub verb_drawing : List ℕ → Option Drawing
verb_drawing verb =
    if same_bytes verb (codes "timeline") then Some (Timeline 0 greatest_limit) else if same_bytes verb (codes "trace") then Some Trace
    else if same_bytes verb (codes "list") then Some (Story (Ticks 0 greatest_limit))
    else if same_bytes verb (codes "report") then Some Report else None

-- from one number to a greater one, which no run goes beyond
abbrev pub ticks_between : ℕ → Option ℕ → Option (ℕ × ℕ)
ticks_between from None = None
ticks_between from (Some to) = if nat_lt from to && nat_le to greatest_limit then Some (from, to) else None

abbrev pub ticks_by : Option ℕ → List ℕ → Option (ℕ × ℕ)
ticks_by None to = None
ticks_by (Some from) to = ticks_between from (number_of to)

abbrev pub part_by : List ℕ → Option (ℕ × ℕ) → Option Drawing
part_by verb None = None
part_by verb (Some ticks) =
    if same_bytes verb (codes "timeline") then Some (Timeline ticks.0 ticks.1)
    else if same_bytes verb (codes "list") then Some (Story (Ticks ticks.0 ticks.1)) else None

-- a name has 16 bytes at most
abbrev pub named_by : List ℕ → List ℕ → Option Drawing
named_by verb name =
    if same_bytes verb (codes "list") && nat_le (length name) most_name_bytes then Some (Story (Thread (record { items = name })))
    else if same_bytes verb (codes "report") && same_bytes name (codes "--csv") then Some Sheet
    else if same_bytes verb (codes "report") && same_bytes name (codes "--jobs") then Some Jobs else None

-- the drawing that the arguments ask for, None where they are of none of the forms
unfoldable pub drawing_of : List (List ℕ) → Option Drawing
drawing_of (verb ∷ []) = verb_drawing verb
drawing_of (verb ∷ name ∷ []) = named_by verb name
drawing_of (verb ∷ from ∷ to ∷ []) = part_by verb (ticks_by (number_of from) to)
drawing_of _ = None

abbrev pub request_by : Option Drawing → Option Request
request_by drawing = option_map (λ d. Draw d) drawing

-- what the arguments ask for: a drawing, or a word on the forms
unfoldable pub request_of : List (List ℕ) → Option Request
request_of (verb ∷ []) = if same_bytes verb (codes "--help") then Some Help else request_by (verb_drawing verb)
request_of arguments = request_by (drawing_of arguments)
