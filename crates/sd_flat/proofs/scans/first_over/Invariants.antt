use Rattle.sd_state.specs.States.{no_thread}
use Rattle.sd_machine.specs.Threads.{is_due, naps_less}
use Rattle.sd_state.proofs.BestLemmas.{IsBestBelow}
use Rattle.sd_flat.proofs.scans.first_over.Given as goal

abbrev pub invariant-loop-i : goal.invariant-loop-i
invariant-loop-i l = IsBestBelow (λ x. is_due l.c.0 l.count x.place) naps_less no_thread l.threads l.i l.first
