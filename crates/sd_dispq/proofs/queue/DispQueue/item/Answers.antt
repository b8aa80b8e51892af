use Rattle.std.proofs.Common.{◌+◌, length, slice_get, sym, ap, ◌∙◌}
use Rattle.sd_dispq.proofs.QueueLemmas.{seek_here, seek_past}
use Rattle.sd_dispq.proofs.LevelLemmas.{to_end}
use Rattle.sd_dispq.proofs.queue.DispQueue.item.Goals as goal

pub returns-in-Ok : goal.returns-in-Ok
returns-in-Ok g c =
    sym (ap (λ xs. slice_get xs c.args.index) (sym c.self.view_is) ∙ sym c.loop-level.invariant
    ∙ seek_here c.self.inside.levels c.loop-level.from c.in-Some.level c.in-Some.ensures.next c.loop-level.left c.in-Ok.item.now (ap (λ xs. slice_get xs c.loop-level.left) (sym c.level.ensures) ∙ c.in-Ok.ensures))

pub loop-level-preserved : goal.loop-level-preserved
loop-level-preserved g c =
    seek_past c.self.inside.levels c.loop-level.from c.in-Some.level c.in-Some.ensures.next c.loop-level.left c.in-Err.rest (c.in-Err.ensures ∙ ap (λ xs. length xs + c.in-Err.rest) c.level.ensures) ∙ c.loop-level.invariant

pub returns : goal.returns
returns g c =
    sym (ap (λ xs. slice_get xs c.args.index) (sym c.self.view_is) ∙ sym c.loop-level.invariant ∙ ap (λ xs. slice_get xs c.loop-level.left) (to_end c.self.inside.levels c.loop-level.from c.in_default.ensures.next))
