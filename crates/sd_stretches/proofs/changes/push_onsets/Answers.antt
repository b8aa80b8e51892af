use Rattle.std.proofs.Common.{arith}
use Rattle.std.specs.Prelude.{slice_get}
use Rattle.sd_stretches.specs.Changes.{onset_if}
use Rattle.sd_stretches.proofs.RangeLemmas.{range_pushed}
use Rattle.sd_stretches.proofs.changes.push_onsets.Goals as goal

pub loop-t-preserved : goal.loop-t-preserved
loop-t-preserved c =
    range_pushed (λ t. onset_if t c.args.first c.args.tick (slice_get c.args.old.now t) (slice_get c.args.new.now t)) c.loop-t.t _ _ _
    c.loop-t.invariant (grind (arith, c.in_ok-push_onset.ensures, c.sight_at.ensures, c.sight_at-in-loop-t.ensures))
