-- How many of each a state has.
use Rattle.std.specs.Prelude.{◌≡◌, ◌+◌, length}
use Rattle.sd_types.specs.declared.works.Work.{Work}
use Rattle.sd_state.specs.declared.states.State.{State}

-- as many threads, locks, processors, channels and sets as the workload has; set 0 is the default partition
pub record FitsFully (w : Work) (s : State) : Type 0 where
  pub threads : length s.threads ≡ length w.threads
  pub locks : length s.locks ≡ length w.locks
  pub cpus : length s.cpus ≡ w.cpus
  pub chans : length s.counts ≡ length w.chans
  pub sets : length s.open_cpus ≡ length w.sets + 1
