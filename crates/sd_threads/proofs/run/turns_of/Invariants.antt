use Rattle.std.proofs.Common.{◌≡◌, map, take}
use Rattle.sd_threads.proofs.run.turns_of.Given as goal

abbrev pub invariant-loop-job : goal.invariant-loop-job
invariant-loop-job l = l.turns.items ≡ map (λ j. j.turn) (take l.job-index l.jobs)
