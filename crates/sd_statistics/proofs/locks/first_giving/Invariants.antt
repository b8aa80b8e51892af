use Rattle.std.proofs.Common.{◌≡◌, [], take}
use Rattle.std.specs.Prelude.{filter}
use Rattle.sd_statistics.specs.Locks.{gives}
use Rattle.sd_statistics.proofs.locks.first_giving.Given as goal

abbrev pub invariant-loop-x : goal.invariant-loop-x
invariant-loop-x l = filter (gives l.t) (take l.x-index l.rest) ≡ []
