use Rattle.sd_cpu.specs.Attempts.{IsEmpty, IsSameWorld}
use Rattle.sd_cpu.proofs.PhaseLemmas.{HasActed}
use Rattle.sd_cpu.proofs.phases.phase.Given as goal

abbrev pub invariant-loop : goal.invariant-loop
invariant-loop g l = record {
  can : (goal.iterator-loop g).can_next l.iterator';
  ends : (goal.iterator-loop g).is_finite l.iterator';
  good : g.W.World.good l.world;
  empty : IsEmpty (g.W.World.meaning l.world);
  same : IsSameWorld (g.W.World.meaning l.fn.world) (g.W.World.meaning l.world);
  acts : HasActed (g.W.World.meaning l.fn.world) (g.W.World.meaning l.world) l.fn.number l.entries l.number;
}
