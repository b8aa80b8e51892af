use Rattle.std.proofs.Common.{◌≡◌, length, take}
use Rattle.sd_world.specs.Worlds.{AllHinted, IsQuiet, Stays}
use Rattle.sd_threads.specs.Tables.{IsTable, world_meaning}
use Rattle.sd_threads.proofs.world.TableWorld.numbers.Given as goal

abbrev pub invariant-loop-d : goal.invariant-loop-d
invariant-loop-d l = record {
  good : IsTable l.self;
  table : l.self.shared ≡ l.fn.self.shared;
  stays : Stays (world_meaning l.fn.self) (world_meaning l.self);
  quiet : IsQuiet (world_meaning l.fn.self) (world_meaning l.self);
  acting : l.self.seat.acting ≡ l.fn.self.seat.acting;
  many : length l.numbers.items ≡ l.d-index;
  hinted : AllHinted (world_meaning l.self) l.which (take l.d-index l.cpus) l.numbers.items;
}
