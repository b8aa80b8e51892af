use Rattle.std.proofs.Common.{◌≡◌, [], take}
use Rattle.std.specs.Prelude.{filter}
use Rattle.sd_statistics.specs.Locks.{wants}
use Rattle.sd_statistics.proofs.locks.first_wanting.Given as goal

abbrev pub invariant-loop-x : goal.invariant-loop-x
invariant-loop-x l = filter (wants l.t) (take l.x-index l.rest) ≡ []
