use Rattle.std.proofs.Common.{◌≡◌, ◌-◌}
use Rattle.std.specs.Prelude.{◌||◌}
use Rattle.sd_hand.specs.Hands.{how_many_held}
use Rattle.sd_world.specs.Worlds.{slots_of}
use Rattle.sd_cpu.specs.Gates.{holds_first}
use Rattle.sd_cpu.specs.Seeking.{HoldsToRead, Looks}
use Rattle.sd_cpu.proofs.seeking.find_course.Given as goal

abbrev pub invariant-seeking : goal.invariant-seeking
invariant-seeking g l = record {
  good : g.W.World.good l.world;
  looks : Looks (g.W.World.meaning l.fn.world) (g.W.World.meaning l.world);
  holds : HoldsToRead (g.W.World.meaning l.world);
  passed : l.passed ≡ (l.fn.passed || holds_first (g.W.World.meaning l.world).acting);
}

abbrev pub decreases-seeking : goal.decreases-seeking
decreases-seeking g l = 4 - how_many_held (slots_of (g.W.World.meaning l.world))
