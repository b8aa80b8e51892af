use Rattle.std.proofs.Common.{◌+◌, take}
use Rattle.sd_layout.specs.Folds.{is_change}
use Rattle.sd_layout.proofs.MarkLemmas.{marks_more}
use Rattle.sd_layout.proofs.marks.marks_of.Goals as goal

pub loop-tick-preserved : goal.loop-tick-preserved
loop-tick-preserved c =
    marks_more c.args.frame.from c.args.changes.now c.loop-tick.tick-index _ _ c.loop-tick-test.true
    (c.mark.ensures (λ n. is_change (take c.loop-tick.tick-index c.args.changes.now) (c.args.frame.from + n)) c.loop-tick.invariant)
