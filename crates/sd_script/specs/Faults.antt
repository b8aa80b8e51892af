-- What is wrong with a list of operations that is no script: the first operation at fault, and of several faults
-- there the one with the least number. Source: this project's own.
use Rattle.std.specs.Prelude.{◌≡◌, ℕ, ◌+◌, ◌<◌, ◌≤◌, Bool, false, not, List, length, take, slice_get, nat_le, Option, Some, None, if◌then◌else◌, true}
use Rattle.std.specs.Option.{option_and_then}
use Rattle.sd_types.specs.declared.numbers.LockId.{LockId}
use Rattle.sd_types.specs.declared.scripts.Op.{Op}
use Rattle.sd_types.specs.declared.scripts.Op.TheVariants.{Enter, Read, Write, Exit, CvWait}
use Rattle.sd_types.specs.Scripts.{is_held, held_by, enters, EachOpFits}
use Rattle.sd_types.specs.Limits.{most_held, most_operations}
use Rattle.sd_script.specs.declared.faults.ScriptFault.{ScriptFault}
use Rattle.sd_script.specs.declared.faults.ScriptFault.TheVariants.{Unbalanced, TooManyHeld, HeldAtExit, TooLong, AlreadyHeld, Unpaired}

abbrev pub number_of : ScriptFault → ℕ
number_of (Unbalanced op) = 1
number_of (TooManyHeld op) = 3
number_of HeldAtExit = 4
number_of TooLong = 5
number_of (AlreadyHeld op) = 6
number_of (Unpaired op) = 7

-- The four faults of an operation. `held` are the locks that are held before it, `after` is the operation after it.

-- an Exit or a CvWait of a lock that is not held
abbrev pub is_unbalanced : List LockId → Op → Bool
is_unbalanced held (Exit l) = not (is_held l held)
is_unbalanced held (CvWait k l) = not (is_held l held)
is_unbalanced held _ = false

-- one of the operations that take a lock, while eight are held
abbrev pub is_ninth : List LockId → Op → Bool
is_ninth held (Enter l) = nat_le most_held (length held)
is_ninth held (Read l) = nat_le most_held (length held)
is_ninth held (Write l) = nat_le most_held (length held)
is_ninth held _ = false

-- one of the operations that take a lock, of a lock that is held
abbrev pub is_taken_again : List LockId → Op → Bool
is_taken_again held (Enter l) = is_held l held
is_taken_again held (Read l) = is_held l held
is_taken_again held (Write l) = is_held l held
is_taken_again held _ = false

-- a CvWait that is not followed by Enter of its mutex
abbrev pub is_unpaired : Op → Option Op → Bool
is_unpaired (CvWait k l) after = not (enters l after)
is_unpaired _ after = false

-- a wait on a condition variable, the one operation whose fault may lie in the operation after it
abbrev pub is_wait : Op → Bool
is_wait (CvWait k l) = true
is_wait _ = false

-- the fault of operation number i, the one with the least number
abbrev pub op_fault : ℕ → List LockId → Op → Option Op → Option ScriptFault
op_fault i held op after =
    if is_unbalanced held op then Some (Unbalanced i)
    else if is_ninth held op then Some (TooManyHeld i)
    else if is_taken_again held op then Some (AlreadyHeld i)
    else if is_unpaired op after then Some (Unpaired i)
    else None

-- the same of operation number i of a list; none past its end
abbrev pub fault_at : List Op → ℕ → Option ScriptFault
fault_at ops i = option_and_then (λ op. op_fault i (held_by (take i ops)) op (slice_get ops (i + 1))) (slice_get ops i)

-- none of the first n operations has a fault
abbrev pub IsFreeBelow : List Op → ℕ → Type 0
IsFreeBelow ops n = (i : ℕ) → i < n → fault_at ops i ≡ None

-- it is the fault of operation number i, one of the first 256, and no operation before it has one
abbrev pub IsFirstAt : List Op → ℕ → ScriptFault → Type 0
IsFirstAt ops i fault = (i < most_operations) × (fault_at ops i ≡ Some fault) × IsFreeBelow ops i

-- the fault of a list
abbrev pub IsFault : List Op → ScriptFault → Type 0
IsFault ops (Unbalanced op) = IsFirstAt ops op (Unbalanced op)
IsFault ops (TooManyHeld op) = IsFirstAt ops op (TooManyHeld op)
IsFault ops (AlreadyHeld op) = IsFirstAt ops op (AlreadyHeld op)
IsFault ops (Unpaired op) = IsFirstAt ops op (Unpaired op)
IsFault ops TooLong = (most_operations < length ops) × IsFreeBelow ops most_operations
IsFault ops HeldAtExit = (length ops ≤ most_operations) × IsFreeBelow ops (length ops) × (0 < length (held_by ops))

-- Each lock is released that was taken, none is taken twice, at most eight are held, a wait on a condition variable
-- is followed by the entry of its mutex, none is held at the end, and there are at most 256 operations.
pub record IsWellFormed (ops : List Op) : Type 0 where
  pub each_fits : EachOpFits ops
  pub released : length (held_by ops) ≡ 0
  pub short : length ops ≤ most_operations
