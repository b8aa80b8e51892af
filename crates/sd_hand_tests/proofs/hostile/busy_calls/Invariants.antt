use Rattle.sd_hand_tests.specs.Plan.{ArePossible}
use Rattle.sd_hand_tests.proofs.hostile.busy_calls.Given as goal

abbrev pub invariant-loop-i : goal.invariant-loop-i
invariant-loop-i l = ArePossible l.plan.items
