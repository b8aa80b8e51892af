use Rattle.sd_shared_table.proofs.WordLemmas.{Hinting}
use Rattle.sd_shared_table.proofs.words.push_hints.Given as goal

abbrev pub invariant-loop-c : goal.invariant-loop-c
invariant-loop-c l = Hinting l.fn.words.items l.c l.words.items
