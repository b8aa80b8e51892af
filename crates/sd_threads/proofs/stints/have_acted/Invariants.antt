use Rattle.sd_threads.specs.Jobs.{AllTell}
use Rattle.sd_threads.proofs.stints.have_acted.Given as goal

abbrev pub invariant-loop-i : goal.invariant-loop-i
invariant-loop-i l = AllTell l.jobs l.i l.acted
