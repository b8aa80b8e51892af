use Rattle.sd_world.proofs.ActorLemmas.{AreFirst}
use Rattle.sd_world.proofs.plain.actors_of.Given as goal

abbrev pub invariant-loop-c : goal.invariant-loop-c
invariant-loop-c l = AreFirst l.s l.c l.actors.items
