use Rattle.sd_hand.specs.Hands.{how_many_held}
use Rattle.sd_world.specs.Worlds.{IsQuiet, Stays}
use Rattle.sd_threads.specs.Tables.{IsTable, world_meaning}
use Rattle.sd_threads.proofs.world.TableWorldWorld.give_all.Given as goal

abbrev pub decreases-giving : goal.decreases-giving
decreases-giving l = how_many_held l.self.seat.acting.hand.slots

abbrev pub invariant-giving : goal.invariant-giving
invariant-giving l = record {
  good : IsTable l.self;
  stays : Stays (world_meaning l.fn.self) (world_meaning l.self);
  quiet : IsQuiet (world_meaning l.fn.self) (world_meaning l.self);
}
