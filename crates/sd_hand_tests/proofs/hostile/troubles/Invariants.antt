use Rattle.sd_hand_tests.specs.Plan.{ArePossible}
use Rattle.sd_hand_tests.proofs.hostile.troubles.Given as goal

abbrev pub invariant-loop-call : goal.invariant-loop-call
invariant-loop-call l = ArePossible l.plan.items
