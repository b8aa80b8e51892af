use Rattle.std.proofs.Common.{◌≡◌, ◌∷◌, ap, ◌∙◌}
use Rattle.sd_deadlines.specs.TaskTable.{least, lesser}
use Rattle.sd_deadlines.proofs.TaskTableLemmas.{least_all, least_more}
use Rattle.sd_deadlines.proofs.task_table.least.Goals as goal

pub loop-x-preserved : goal.loop-x-preserved
loop-x-preserved c =
    let now : c.loop-x.left.now ≡ c.in-Some.x.now ∷ c.in-Some.rest.now = (rw c.in-Some.is at c.split_first.ensures.cases).0 in
    least_more c.loop-x.best _ _ c.in-Some.x.now c.loop-x.left.now c.in-Some.rest.now now c.loop-x.invariant
    (c.lesser-best.ensures ∙ ap (lesser c.loop-x.best) c.ticks_of.ensures)

pub returns : goal.returns
unfolding least
returns c = least_all c.loop-x.best _ c.loop-x.left.now c.in_default.ensures.cases c.loop-x.invariant
