use Rattle.std.proofs.Common.{sym, subst}
use Rattle.sd_hand_tests.specs.Plan.{ArePossible}
use Rattle.sd_hand_tests.proofs.ReadyLemmas.{possible_more}
use Rattle.sd_hand_tests.proofs.hostile.troubles.Goals as goal

pub loop-call-preserved : goal.loop-call-preserved
loop-call-preserved c = subst ArePossible (sym c.in_ok-push.ensures.items) (possible_more c.loop-call.plan.items _ c.loop-call.invariant tt)
