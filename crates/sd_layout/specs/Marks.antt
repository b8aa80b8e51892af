-- Marks of ticks, so that whether something changes at a tick is found without a look at all changes.
-- Source: this project's own.
use Rattle.std.specs.Prelude.{◌≡◌, ℕ, Bool, ◌||◌, ◌==◌, List, [], ◌∷◌, Some, slice_get, if◌then◌else◌}
use Rattle.sd_layout.specs.declared.frames.Frame.{Frame}

-- each mark that is there is the value of its number
abbrev pub AreMarks : (ℕ → Bool) → List Bool → Type 0
AreMarks f marks = (n : ℕ) (b : Bool) → slice_get marks n ≡ Some b → b ≡ f n

-- the tick, where something changes at it or it is the first
abbrev pub stop_if : Frame → Bool → ℕ → List ℕ
stop_if f changes tick = if tick == f.from || changes then tick ∷ [] else []
