use Rattle.std.proofs.Common.{◌+◌, ◌++◌, [], ap, ◌∙◌}
use Rattle.sd_stretches.proofs.RangeLemmas.{range_pushed}
use Rattle.sd_layout.specs.Folds.{stop_at}
use Rattle.sd_layout.specs.Marks.{stop_if}
use Rattle.sd_layout.proofs.folds.stops_of.Goals as goal

pub loop-n-preserved : goal.loop-n-preserved
loop-n-preserved c =
    range_pushed (λ k. stop_at c.args.frame c.args.changes.now (c.args.frame.from + k)) c.loop-n.n [] _ _ c.loop-n.invariant
    (c.in_ok-push_stop.ensures ∙ ap (λ b. c.loop-n.stops.items ++ stop_if c.args.frame b (c.args.frame.from + c.loop-n.n)) (c.is_marked-marked.ensures (rw c.deref.ensures.value c.in_ok-marks.ensures)))
