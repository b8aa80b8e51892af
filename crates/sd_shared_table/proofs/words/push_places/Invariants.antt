use Rattle.sd_world.specs.Plain.{told}
use Rattle.sd_shared_table.proofs.WordLemmas.{Placing}
use Rattle.sd_shared_table.proofs.words.push_places.Given as goal

abbrev pub invariant-loop-t : goal.invariant-loop-t
invariant-loop-t l = Placing l.work (told l.work l.world) l.fn.words.items l.t l.words.items
