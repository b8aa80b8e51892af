use Rattle.std.proofs.Common.{take}
use Rattle.sd_state.specs.Opening.{opening}
use Rattle.sd_machine.proofs.RunLemmas.{IsRun-from, from-IsRun, IsRunFrom-take}
use Rattle.sd_invariants.proofs.laws.fronts_are_runs.Goals as goal

pub returns : goal.returns
returns c = λ w es k run. from-IsRun w (take k es) (IsRunFrom-take w (opening w) 0 k es (IsRun-from w es run))
