use Rattle.sd_world.specs.Worlds.{IsQuiet, Stays}
use Rattle.sd_hand.specs.Hands.{how_many_held}
use Rattle.sd_hand_tests.specs.Hostile.{IsHostile, hostile_meaning}
use Rattle.sd_hand_tests.proofs.turns.HostileWorldWorld.give_all.Given as goal

abbrev pub decreases-giving : goal.decreases-giving
decreases-giving l = how_many_held l.self.near.hand.slots

abbrev pub invariant-giving : goal.invariant-giving
invariant-giving l = IsHostile l.self × Stays (hostile_meaning l.fn.self) (hostile_meaning l.self) × IsQuiet (hostile_meaning l.fn.self) (hostile_meaning l.self)
