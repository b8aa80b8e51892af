use Rattle.std.proofs.Common.{sym, ◌∙◌}
use Rattle.sd_stretches.proofs.RowLemmas.{first_passes}
use Rattle.sd_deadlines.specs.JobLines.{ticks_on}
use Rattle.sd_deadlines.proofs.job_lines.next_tick.Goals as goal

pub returns-then-ticks_on : goal.returns-then-ticks_on
returns-then-ticks_on c =
    sym (first_passes (ticks_on c.args.c) c.args.rest.now c.loop-x.x-index _ c.loop-x-test.true c.loop-x.invariant (sym c.ticks_on.ensures ∙ c.if-ticks_on.true))
