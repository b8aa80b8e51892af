use Rattle.std.proofs.Common.{◌≡◌, length}
use Rattle.sd_homes.specs.Standing.{least_to_age}
use Rattle.sd_homes.proofs.ready.first_to_age.Given as goal

abbrev pub invariant-loop-thread : goal.invariant-loop-thread
invariant-loop-thread l = least_to_age l.u.0 l.threads ≡ least_to_age l.u.0 l.fn.threads

abbrev pub decreases-loop-thread : goal.decreases-loop-thread
decreases-loop-thread l = length l.threads
