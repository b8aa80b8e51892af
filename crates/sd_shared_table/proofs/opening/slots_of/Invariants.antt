use Rattle.sd_shared_rule.specs.Places.{sizes}
use Rattle.sd_shared_table.proofs.OpeningLemmas.{Laying}
use Rattle.sd_shared_table.proofs.opening.slots_of.Given as goal

abbrev pub invariant-loop-i : goal.invariant-loop-i
invariant-loop-i l = Laying (sizes l.work) l.fn.hand.slots l.hand.slots l.i l.slots.items
