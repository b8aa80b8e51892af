-- Runs in which each processor reads the numbers of the state, and those of them that go to their end.
-- Source: this project's own.
use Rattle.std.specs.Prelude.{◌≡◌, List, ◌++◌}
use Rattle.sd_types.specs.declared.numbers.CpuId.{CpuId}
use Rattle.sd_types.specs.declared.events.Entry.{Entry}
use Rattle.sd_types.specs.declared.works.Work.{Work}
use Rattle.sd_state.specs.declared.states.State.{State}
use Rattle.sd_state.specs.Opening.{opening}
use Rattle.sd_machine.specs.Runs.{IsComplete, IsRun, final, round, IsFresh}

-- the entries are a run in which each processor reads the numbers of the state
pub record IsFreshRun (w : Work) (es : List Entry) : Type 0 where
  pub run : IsRun w es
  pub fresh : IsFresh w (opening w) es

-- and no processor can make a further entry, whatever it reads
pub record IsWholeRun (w : Work) (es : List Entry) : Type 0 where
  pub run : IsFreshRun w es
  pub complete : IsComplete w (final w (opening w) es)

-- such a run leads to the state
pub record LeadsTo (w : Work) (es : List Entry) (s : State) : Type 0 where
  pub run : IsFreshRun w es
  pub ends : s ≡ final w (opening w) es

abbrev pub BeginsWith : List Entry → List Entry → Type 0
BeginsWith es front = (rest : List Entry) × (es ≡ front ++ rest)

-- the turns of these processors, one after another, and what follows until no processor can make an entry
pub record GoesOn (w : Work) (path : List CpuId) (es : List Entry) : Type 0 where
  pub whole : IsWholeRun w es
  pub begins : BeginsWith es (round w (opening w) 0 path)
