use Rattle.std.proofs.Common.{◌≡◌, ◌++◌, ℕ, List}
use Rattle.sd_encoding.specs.Bytes.{bytes_from}
use Rattle.sd_encoding.proofs.bytes.write_front.Given as goal

abbrev pub invariant-loop-rest : goal.invariant-loop-rest
invariant-loop-rest l = (more : List ℕ) → l.into ++ bytes_from l.rest 0 more ≡ l.fn.into ++ bytes_from l.number 0 more

abbrev pub decreases-loop-rest : goal.decreases-loop-rest
decreases-loop-rest l = l.rest
