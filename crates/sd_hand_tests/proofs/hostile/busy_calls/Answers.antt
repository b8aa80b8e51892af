use Rattle.std.proofs.Common.{sym, subst}
use Rattle.sd_hand_tests.specs.Plan.{ArePossible}
use Rattle.sd_hand_tests.proofs.ReadyLemmas.{possible_more}
use Rattle.sd_hand_tests.proofs.hostile.busy_calls.Goals as goal

pub loop-i-preserved : goal.loop-i-preserved
loop-i-preserved c = subst ArePossible (sym c.in_ok-push.ensures.items) (possible_more c.loop-i.plan.items _ c.loop-i.invariant tt)
