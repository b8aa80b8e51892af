-- What a script that is well formed says of the locks that are held.
use Rattle.std.proofs.Common.{◌≡◌, true, List, [], ◌∷◌, ◌++◌, Option, arith}
use Rattle.std.proofs.lemmas.Bool.Decides.{nat_tests}
use Rattle.sd_basics.proofs.Truths.{and_left}
use Rattle.sd_types.specs.declared.numbers.ChanId.{ChanId}
use Rattle.sd_types.specs.declared.numbers.LockId.{LockId}
use Rattle.sd_types.specs.declared.scripts.Op.{Op}
use Rattle.sd_types.specs.declared.scripts.Op.TheVariants.{CvWait, Exit}
use Rattle.sd_types.specs.Scripts.{is_held, op_fits}

-- the lock that was taken last is held
pub held_last : (l : LockId) (held : List LockId) → is_held l (held ++ l ∷ []) ≡ true
held_last l [] = grind (arith, nat_tests)
held_last l (m ∷ ms) = let rest = held_last l ms in grind (arith, nat_tests)

-- a lock that is given up is held
pub gives_exit : (l : LockId) (after : Option Op) (held : List LockId) → op_fits held (Exit l) after ≡ true → is_held l held ≡ true
gives_exit l after held e = e

pub gives_wait : (k : ChanId) (l : LockId) (after : Option Op) (held : List LockId) → op_fits held (CvWait k l) after ≡ true → is_held l held ≡ true
gives_wait k l after held e = and_left (is_held l held) _ e
