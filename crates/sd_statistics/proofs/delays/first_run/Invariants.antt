use Rattle.std.proofs.Common.{◌≡◌, [], take}
use Rattle.std.specs.Prelude.{filter}
use Rattle.sd_statistics.specs.Delays.{runs_after}
use Rattle.sd_statistics.proofs.delays.first_run.Given as goal

abbrev pub invariant-loop-x : goal.invariant-loop-x
invariant-loop-x l = filter (runs_after l.entry) (take l.x-index l.own) ≡ []
