-- What refuses a list of entries.
-- Source: this project's own.
use Rattle.std.specs.Prelude.{ℕ, ◌+◌, ◌<◌, List, length, take, ⊤}
use Rattle.sd_types.specs.declared.events.Entry.{Entry}
use Rattle.sd_types.specs.declared.works.Work.{Work}
use Rattle.sd_state.specs.declared.states.State.{State}
use Rattle.sd_machine.specs.Runs.{IsRunFrom, IsRun}
use Rattle.sd_replay.specs.declared.replays.ReplayFault.{ReplayFault}
use Rattle.sd_replay.specs.declared.replays.ReplayFault.TheVariants.{Illegal, Memory}

-- the entries before index k make steps from the state, and those up to it do not
pub record IsIllegalFrom (w : Work) (s : State) (es : List Entry) (k : ℕ) : Type 0 where
  pub inside : k < length es
  pub before : IsRunFrom w s 0 (take k es)
  pub illegal : ¬ (IsRunFrom w s 0 (take (k + 1) es))

-- the entry at index k is the first that is no step, or whose number is not its index
pub record IsIllegal (w : Work) (es : List Entry) (k : ℕ) : Type 0 where
  pub inside : k < length es
  pub before : IsRun w (take k es)
  pub illegal : ¬ (IsRun w (take (k + 1) es))
  pub no_run : ¬ (IsRun w es)

-- where memory ran out, it did so before an entry was judged
abbrev pub IsFault : Work → List Entry → ReplayFault → Type 0
IsFault w es (Illegal k) = IsIllegal w es k
IsFault w es Memory = ⊤
