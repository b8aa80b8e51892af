use Rattle.sd_state.specs.States.{no_thread}
use Rattle.sd_flat.specs.Standings.{stands}
use Rattle.sd_state.specs.Best.{beats}
use Rattle.sd_state.proofs.BestLemmas.{IsBestBelow}
use Rattle.sd_flat.proofs.scans.best_standing.Given as goal

abbrev pub invariant-loop-i : goal.invariant-loop-i
invariant-loop-i l = IsBestBelow (λ x. stands l.standing x) beats no_thread l.threads l.i l.best
