-- A count that no processor's is below.
-- Source: this project's own.
use Rattle.std.specs.Prelude.{ℕ, ◌<◌, ◌≤◌}
use Rattle.sd_types.specs.declared.works.Work.{Work}
use Rattle.sd_state.specs.declared.states.State.{State}
use Rattle.sd_state.specs.States.{cpu_of}

-- no processor of the workload has counted less in this state
abbrev pub IsFloor : Work → State → ℕ → Type 0
IsFloor w s floor = (d : ℕ) → d < w.cpus → floor ≤ (cpu_of s d).count
