use Rattle.std.proofs.Common.{sym, ◌∙◌}
use Rattle.sd_stretches.proofs.RowLemmas.{first_passes}
use Rattle.sd_statistics.specs.Delays.{runs_after}
use Rattle.sd_statistics.proofs.delays.first_run.Goals as goal

pub returns-then-runs_after : goal.returns-then-runs_after
returns-then-runs_after c =
    sym (first_passes (runs_after c.args.entry) c.args.own.now c.loop-x.x-index _ c.loop-x-test.true c.loop-x.invariant (sym c.runs_after.ensures ∙ c.if-runs_after.true))
