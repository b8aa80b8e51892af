use Rattle.sd_state.specs.Invariants.{OneRuns}
use Rattle.sd_invariants.proofs.RunningLemmas.{opening_one, one_kept}
use Rattle.sd_invariants.proofs.Ready.{kept_reached}
use Rattle.sd_invariants.proofs.laws.one_runs.Goals as goal

pub returns : goal.returns
returns c = kept_reached (λ w s. OneRuns s) (record { start = opening_one; step = one_kept })
