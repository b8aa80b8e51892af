-- Where a run ends.
use Rattle.std.specs.Prelude.{◌≡◌, ℕ, ◌<◌}
use Rattle.sd_types.specs.declared.works.Work.{Work}
use Rattle.sd_state.specs.declared.states.State.{State}
use Rattle.sd_state.specs.States.{cpu_of}
use Rattle.sd_machine.specs.Runs.{IsReached, IsComplete}

-- where no processor can make an entry, each has counted the ticks of the limit
abbrev pub CompleteRunsReachTheLimit : Type 0
CompleteRunsReachTheLimit = (w : Work) (n : ℕ) (s : State) → IsReached w n s → IsComplete w s → (c : ℕ) → c < w.cpus → (cpu_of s c).count ≡ w.limit
