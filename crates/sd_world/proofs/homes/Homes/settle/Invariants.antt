use Rattle.sd_world.proofs.ComeLemmas.{Settling}
use Rattle.sd_world.proofs.homes.Homes.settle.Given as goal

abbrev pub invariant-loop-t : goal.invariant-loop-t
invariant-loop-t l = Settling l.number l.s l.t l.fn.self l.self
