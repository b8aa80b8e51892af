use Rattle.sd_hand_tests.specs.Ready.{IsReady}
use Rattle.sd_hand_tests.proofs.hostile.run.Given as goal

abbrev pub invariant-loop-turn : goal.invariant-loop-turn
invariant-loop-turn g l = IsReady l.work l.world
