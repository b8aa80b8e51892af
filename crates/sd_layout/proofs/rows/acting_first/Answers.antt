use Rattle.std.proofs.Common.{ap}
use Rattle.std.specs.Prelude.{not}
use Rattle.sd_layout.specs.Rows.{acts}
use Rattle.sd_layout.proofs.RowLemmas.{filter_grown}
use Rattle.sd_layout.proofs.rows.acting_first.Goals as goal

pub loop-t-preserved : goal.loop-t-preserved
loop-t-preserved c =
    let p = acts c.args.work.now c.args.frame c.args.history.now in
    let b = c.in_ok-is_first.is_first in record {
      first = filter_grown p c.loop-t.t b _ _ c.in_ok-is_first.ensures c.loop-t.invariant.first c.in_ok-push_thread.ensures.first;
      others = filter_grown (λ t. not (p t)) c.loop-t.t (not b) _ _ (ap not c.in_ok-is_first.ensures) c.loop-t.invariant.others c.in_ok-push_thread.ensures.others;
    }
