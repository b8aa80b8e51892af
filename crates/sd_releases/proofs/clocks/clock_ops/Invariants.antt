use Rattle.std.proofs.Common.{◌≡◌}
use Rattle.sd_tasks.specs.Kept.{above_kept}
use Rattle.sd_releases.specs.Clocks.{clock_below}
use Rattle.sd_releases.specs.Kept.{clock_kept}
use Rattle.sd_releases.proofs.clocks.clock_ops.Given as goal

abbrev pub invariant-loop-tick : goal.invariant-loop-tick
invariant-loop-tick l = clock_kept l.clock ≡ clock_below (above_kept l.facts) l.number l.cpu l.tick
