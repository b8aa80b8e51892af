use Rattle.std.proofs.Common.{◌≡◌}
use Rattle.sd_homes.specs.Standing.{earlier, least_to_age}
use Rattle.sd_homes.proofs.ready.earliest.Given as goal

abbrev pub invariant-loop-thread : goal.invariant-loop-thread
invariant-loop-thread l = earlier l.least.0 (least_to_age l.u.0 l.thread-iterator) ≡ earlier l.fn.t.0 (least_to_age l.u.0 l.fn.threads)
