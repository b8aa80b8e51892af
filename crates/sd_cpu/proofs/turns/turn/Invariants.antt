use Rattle.sd_cpu.specs.Attempts.{Idles, IsEmpty}
use Rattle.sd_cpu.proofs.turns.turn.Given as goal

abbrev pub invariant-loop : goal.invariant-loop
invariant-loop g l = record {
  can : (goal.iterator-loop g).can_next l.iterator';
  ends : (goal.iterator-loop g).is_finite l.iterator';
  good : g.W.World.good l.world;
  empty : IsEmpty (g.W.World.meaning l.world);
  idles : Idles (g.W.World.meaning l.fn.world) (g.W.World.meaning l.world);
}
