-- Of each thread the first of its entries of a kind, behind a place in a list of entries.
-- Source: this project's own.
use Rattle.std.specs.Prelude.{◌≡◌, ℕ, List, Option, Some, slice_get, if◌then◌else◌}
use Rattle.sd_types.specs.declared.numbers.ThreadId.{ThreadId}
use Rattle.sd_stretches.specs.declared.changes.Happening.{Happening}
use Rattle.sd_stretches.specs.Changes.{is_that_thread}

-- the place of each thread that has one holds this
abbrev pub AreNexts : (ThreadId → Option Happening) → List (Option Happening) → Type 0
AreNexts f nexts = (t : ℕ) (next : Option Happening) → slice_get nexts t ≡ Some next → next ≡ f (record { 0 = t })

-- x is the next one of this thread, and of all others the next one is as before
abbrev pub Notes : Option ThreadId → Happening → List (Option Happening) → List (Option Happening) → Type 0
Notes who x old new = (f : ThreadId → Option Happening) → AreNexts f old → AreNexts (λ t. if is_that_thread t who then Some x else f t) new
