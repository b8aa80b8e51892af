use Rattle.sd_hand_tests.specs.Ready.{IsReady}
use Rattle.sd_hand_tests.proofs.hostile.repeat.Given as goal

abbrev pub invariant-loop : goal.invariant-loop
invariant-loop g l = IsReady l.work l.world
