-- What reading to the end does to a source (this project's own).
use Rattle.std.specs.Prelude.{◌≡◌, ℕ, ◌+◌, ◌≤◌, ◌↔◌, List, length, Option, Result, IfOk, Err}
use Rattle.std.specs.Io.KnownBytes.{Consumes}
use Rattle.std.specs.declared.vec.Vec.{Vec}
use Rattle.std.specs.declared.alloc.Global.{Global}
use Rattle.sd_text.specs.declared.read.ReadAllFault.{ReadAllFault}
use Rattle.sd_text.specs.declared.read.ReadAllFault.TheVariants.{TooLarge}

-- The call took `bytes` from the beginning of what was left, at most one more than `most`. It found the input too large
-- exactly where it took that one more, and what it gave is all that it took.
pub record TakesUpTo (most : ℕ) (old new : Option (List ℕ)) (result : Result (Vec ℕ Global) ReadAllFault) : Type 0 where
  pub bytes : List ℕ
  pub consumed : Consumes old new bytes
  pub bound : length bytes ≤ most + 1
  pub too_large : (result ≡ Err TooLarge) ↔ (length bytes ≡ most + 1)
  pub all : IfOk result (λ v. v.items ≡ bytes)
