use Rattle.std.proofs.Common.{sym, ap, ◌∙◌}
use Rattle.sd_stretches.proofs.RowLemmas.{first_passes}
use Rattle.sd_deadlines.specs.TaskTable.{misses, release_in}
use Rattle.sd_deadlines.proofs.task_table.first_miss.Goals as goal

pub returns-then-misses : goal.returns-then-misses
returns-then-misses c =
    sym (ap release_in (first_passes (misses c.args.deadline c.args.end) c.args.jobs.now c.loop-x.x-index _ c.loop-x-test.true c.loop-x.invariant
    (sym c.misses.ensures ∙ c.if-misses.true)))
