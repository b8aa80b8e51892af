-- The laws. Source: this project's own.
use Rattle.std.specs.Prelude.{◌≡◌, ℕ, ◌+◌, ◌<◌, List, length, Option}
use Rattle.std.specs.List.{Contains}
use Rattle.sd_types.specs.declared.numbers.CpuId.{CpuId}
use Rattle.sd_types.specs.declared.events.Entry.{Entry}
use Rattle.sd_types.specs.declared.events.Event.{Event}
use Rattle.sd_types.specs.declared.events.Hints.{Hints}
use Rattle.sd_types.specs.declared.works.Work.{Work}
use Rattle.sd_state.specs.declared.states.State.{State}
use Rattle.sd_state.specs.Opening.{opening}
use Rattle.sd_state.specs.States.{first_back_key}
use Rattle.sd_machine.specs.Events.{after, next}
use Rattle.sd_machine.specs.Hints.{reads}
use Rattle.sd_machine.specs.Needs.{Needs}
use Rattle.sd_machine.specs.Runs.{IsRun, final, serial_hints, IsFresh}
use Rattle.sd_encoding.specs.Order.{IsSameOrder, KeysFit}
use Rattle.sd_encoding.specs.Ranks.{ranked}
use Rattle.sd_search.specs.Closed.{Has, IsClosed}
use Rattle.sd_search.specs.Spelled.{IsSpelled, Leads}

-- in states whose keys have the same order, a processor reads the same, is shown the same numbers and may make the same event
pub record IsSameTurn (w : Work) (x s : State) (c : CpuId) : Type 0 where
  pub reads : reads w x c.0 ≡ reads w s c.0
  pub hints : serial_hints w x c ≡ serial_hints w s c
  pub event : (hints : Option Hints) → next w x c hints ≡ next w s c hints

abbrev pub TurnsAreTheSame : Type 0
TurnsAreTheSame = (w : Work) (x s : State) (n m : ℕ) (c : CpuId) → IsSameOrder x s → KeysFit n x → KeysFit m s → IsSameTurn w x s c

-- and after the event the keys have the same order again, whatever number the entry has in each
abbrev pub EntriesKeepTheOrder : Type 0
EntriesKeepTheOrder =
    (w : Work) (x s : State) (n m : ℕ) (c : CpuId) (e : Event) → IsSameOrder x s → KeysFit n x → KeysFit m s → Needs w s c e
    → IsSameOrder (after w x n c e) (after w s m c e)

-- with its rank for each key a state has its keys in the same order, before those of entry 0 where it is small; and states
-- whose keys have the same order are those that are the same with ranks
pub record IsToldByRanks (x s : State) : Type 0 where
  pub same : IsSameOrder (ranked s) s
  pub fits : length s.threads + length s.cpus < first_back_key → KeysFit 0 (ranked s)
  pub to : IsSameOrder x s → ranked x ≡ ranked s
  pub from : ranked x ≡ ranked s → IsSameOrder x s

abbrev pub RanksTellTheOrder : Type 0
RanksTellTheOrder = (x s : State) → IsToldByRanks x s

-- a closed set of states has the last state of every run in which each entry's hints are the numbers of the state before it
abbrev pub ClosedSetsHaveEveryRun : Type 0
ClosedSetsHaveEveryRun =
    (w : Work) (states : List State) (es : List Entry) → IsClosed w (λ x. Contains states x) → IsRun w es → IsFresh w (opening w) es
    → Has (λ x. Contains states x) (final w (opening w) es)

-- what a state leads to that is the initial one up to the order of keys is reached by the run that the processors spell
abbrev pub TurnsSpellARun : Type 0
TurnsSpellARun = (w : Work) (x y : State) (cs : List CpuId) → IsSameOrder x (opening w) → KeysFit 0 x → Leads w x cs y → IsSpelled w cs y
