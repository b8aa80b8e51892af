-- A plan of troubles.
-- Source: this project's own.
use Rattle.std.specs.Prelude.{◌≡◌, ◌≢◌, ℕ, ◌==◌, List, [], ◌∷◌, Option, Some, None, if◌then◌else◌, ⊤}
use Rattle.sd_world.specs.declared.world.Take.{Take}
use Rattle.sd_world.specs.declared.world.Take.TheVariants as take
use Rattle.sd_world.specs.declared.world.ThreadLock.{ThreadLock}
use Rattle.sd_world.specs.declared.world.ThreadLock.TheVariants as thread
use Rattle.sd_hand_tests.specs.declared.plan.Trouble.{Trouble}
use Rattle.sd_hand_tests.specs.declared.plan.What.{What}
use Rattle.sd_hand_tests.specs.declared.plan.What.TheVariants.{Busy, Moved}

-- what happens at call n: the first that is said of it
abbrev pub trouble_at : List Trouble → ℕ → Option What
trouble_at [] n = None
trouble_at (x ∷ xs) n = if x.call == n then Some x.what else trouble_at xs n

-- a thread moves between two homes
abbrev pub IsPossible : What → Type 0
IsPossible (Moved a b) = a ≢ b
IsPossible what = ⊤

abbrev pub ArePossible : List Trouble → Type 0
ArePossible [] = ⊤
ArePossible (x ∷ xs) = IsPossible x.what × ArePossible xs

-- call n hinders its caller only as the plan says of it
abbrev pub TakesByPlan : List Trouble → ℕ → Take → Type 0
TakesByPlan xs n take.Taken = ⊤
TakesByPlan xs n (take.Busy holder) = trouble_at xs n ≡ Some (Busy holder)

abbrev pub LocksByPlan : List Trouble → ℕ → ThreadLock → Type 0
LocksByPlan xs n (thread.Held k) = ⊤
LocksByPlan xs n (thread.Busy k holder) = trouble_at xs n ≡ Some (Busy holder)
LocksByPlan xs n (thread.Moved a b) = trouble_at xs n ≡ Some (Moved a b)
