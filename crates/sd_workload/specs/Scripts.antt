-- The fault of the operations that a line of a script gives, behind the operations of the lines above it.
-- Source: this project's own.
use Rattle.std.specs.Prelude.{ℕ, List, [], ◌∷◌, ◌++◌, length, nat_lt, cond, Option, Some, None}
use Rattle.sd_types.specs.declared.numbers.LockId.{LockId}
use Rattle.sd_types.specs.declared.scripts.Op.{Op}
use Rattle.sd_types.specs.Scripts.{held_by}
use Rattle.sd_types.specs.Limits.{most_operations}
use Rattle.sd_script.specs.declared.faults.ScriptFault.{ScriptFault}
use Rattle.sd_script.specs.declared.faults.ScriptFault.TheVariants.{HeldAtExit, TooLong}
use Rattle.sd_script.specs.Faults.{op_fault}

-- the first that there is
abbrev pub first_of : {X : Type 0} → Option X → Option X → Option X
first_of None other = other
first_of (Some x) other = Some x

abbrev pub head : List Op → Option Op
head [] = None
head (op ∷ ops) = Some op

-- The fault of one more operation behind so many, behind which these locks are held, where this one follows it. A script has at
-- most 256 operations, and that it is too long comes before each other fault of the operation that is too many.
unfoldable pub fault_behind : ℕ → List LockId → Op → Option Op → Option ScriptFault
fault_behind count held op after = cond (nat_lt count most_operations) (op_fault count held op after) (Some TooLong)

abbrev pub more_fault : List Op → Op → Option Op → Option ScriptFault
more_fault ops op after = fault_behind (length ops) (held_by ops) op after

-- the first fault of more operations
abbrev pub ops_fault : List Op → List Op → Option ScriptFault
ops_fault ops [] = None
ops_fault ops (op ∷ more) = first_of (more_fault ops op (head more)) (ops_fault (ops ++ op ∷ []) more)

-- the fault of a script that ends behind these operations
abbrev pub end_fault : List Op → Option ScriptFault
end_fault ops = cond (nat_lt 0 (length (held_by ops))) (Some HeldAtExit) None
