-- Well-formed scripts. What is held before an operation is a function of the operations before it.
-- Source: this project's own.
use Rattle.std.specs.Prelude.{◌≡◌, ℕ, ◌+◌, Bool, true, false, not, ◌&&◌, List, [], ◌∷◌, ◌++◌, length, take, fold, filter, slice_get, nat_lt, ◌==◌, Option, Some}
use Rattle.std.specs.List.{list_any}
use Rattle.sd_types.specs.declared.numbers.LockId.{LockId}
use Rattle.sd_types.specs.declared.scripts.Op.{Op}
use Rattle.sd_types.specs.declared.scripts.Op.TheVariants.{Enter, Read, Write, Exit, CvWait}
use Rattle.sd_types.specs.Limits.{most_held}

abbrev pub is_lock : LockId → LockId → Bool
is_lock l m = l.0 == m.0

abbrev pub is_held : LockId → List LockId → Bool
is_held l held = list_any (is_lock l) held

-- without the lock l
abbrev pub without_lock : LockId → List LockId → List LockId
without_lock l held = filter (λ m. not (is_lock l m)) held

-- the locks that are held after an operation, in the order in which they were taken
abbrev pub held_after : List LockId → Op → List LockId
held_after held (Enter l) = held ++ l ∷ []
held_after held (Read l) = held ++ l ∷ []
held_after held (Write l) = held ++ l ∷ []
held_after held (Exit l) = without_lock l held
held_after held (CvWait k l) = without_lock l held
held_after held _ = held

-- the locks that are held after these operations
abbrev pub held_by : List Op → List LockId
held_by ops = fold held_after [] ops

-- the next operation enters the lock
abbrev pub enters : LockId → Option Op → Bool
enters l (Some (Enter m)) = is_lock l m
enters l _ = false

abbrev pub can_take : LockId → List LockId → Bool
can_take l held = not (is_held l held) && nat_lt (length held) most_held

-- an operation with the locks held before it and the operation after it
abbrev pub op_fits : List LockId → Op → Option Op → Bool
op_fits held (Enter l) after = can_take l held
op_fits held (Read l) after = can_take l held
op_fits held (Write l) after = can_take l held
op_fits held (Exit l) after = is_held l held
op_fits held (CvWait k l) after = is_held l held && enters l after
op_fits held _ after = true

abbrev pub OpFitsAt : List Op → ℕ → Type 0
OpFitsAt ops i = (op : Op) → slice_get ops i ≡ Some op → op_fits (held_by (take i ops)) op (slice_get ops (i + 1)) ≡ true

abbrev pub EachOpFits : List Op → Type 0
EachOpFits ops = (i : ℕ) → OpFitsAt ops i
