use Rattle.std.proofs.Common.{◌≡◌}
use Rattle.sd_threads.specs.Tables.{IsTable, world_meaning}
use Rattle.sd_threads.proofs.AsWorld.{AreLevel}
use Rattle.sd_threads.proofs.world.TableWorldWorld.behind.Given as goal

abbrev pub invariant-loop-d : goal.invariant-loop-d
invariant-loop-d l = record {
  good : IsTable l.self;
  table : l.self.shared ≡ l.fn.self.shared;
  level : AreLevel (world_meaning l.fn.self) (world_meaning l.self) l.d;
}
