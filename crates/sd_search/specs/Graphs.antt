-- What a search has gathered: states, each packed into bytes and by the order in which it was found, and of each but the
-- first from which it was reached, by the turn of which processor. States with an index below `done` have been expanded:
-- each turn of each processor from there leads to a state that was gathered, up to the order of keys.
-- Source: explicit search of state spaces, breadth first (Clarke, Grumberg and Peled, "Model Checking").
use Rattle.std.specs.Prelude.{◌≡◌, ℕ, zero, suc, ◌<◌, ◌≤◌, Bool, true, false, List, length, map, slice_get, Some, ⊤}
use Rattle.sd_types.specs.declared.numbers.CpuId.{CpuId}
use Rattle.sd_types.specs.declared.events.Entry.{Entry}
use Rattle.sd_types.specs.declared.events.Event.{Event}
use Rattle.sd_types.specs.declared.works.Work.{Work}
use Rattle.sd_state.specs.declared.states.State.{State}
use Rattle.sd_state.specs.Opening.{opening}
use Rattle.sd_machine.specs.Events.{after, next}
use Rattle.sd_machine.specs.Runs.{IsRun, final, serial_hints, IsFresh}
use Rattle.sd_encoding.specs.Order.{IsSameOrder, KeysFit}
use Rattle.sd_encoding.specs.Ranks.{ranked}
use Rattle.sd_search.specs.Closed.{Has}
use Rattle.sd_search.specs.Spelled.{IsTurn}
use Rattle.sd_encoding.specs.Encoding.{IsHeld, encoded}
use Rattle.sd_search.specs.declared.graph.Graph.{Graph}
use Rattle.sd_search.specs.declared.graph.Step.{Step}

-- the bytes of each state, by the order in which they were found
abbrev pub packed : Graph → List (List ℕ)
packed g = map (λ v. v.items) g.states.keys

abbrev pub steps_of : Graph → List Step
steps_of g = g.steps.items

-- state number i is x, which the program can hold
pub record IsAt (bs : List (List ℕ)) (i : ℕ) (x : State) : Type 0 where
  pub bytes : slice_get bs i ≡ Some (encoded x)
  pub held : IsHeld x

-- x is one of the states
pub record IsAmong (bs : List (List ℕ)) (x : State) : Type 0 where
  pub index : ℕ
  pub at : IsAt bs index x

-- state number i was reached by a turn from a state with a smaller number
pub record IsReachedBy (w : Work) (bs : List (List ℕ)) (i : ℕ) (step : Step) : Type 0 where
  pub before : step.before < i
  pub from : State
  pub from_at : IsAt bs step.before from
  pub to : State
  pub to_at : IsAt bs i to
  pub turn : IsTurn w from step.cpu to

-- each turn of processor c from state x leads to one of the states
abbrev pub IsTurned : Work → List (List ℕ) → State → CpuId → Type 0
IsTurned w bs x c = (e : Event) → next w x c (serial_hints w x c) ≡ Some e → Has (IsAmong bs) (after w x 0 c e)

-- each turn of each processor from state x does, where all were looked at; else as many states are there as are allowed
abbrev pub AreTurned : Work → List (List ℕ) → State → ℕ → Bool → Type 0
AreTurned w bs x most true = (c : CpuId) → IsTurned w bs x c
AreTurned w bs x most false = most ≤ length bs

-- each turn of each processor from state number i does
abbrev pub IsExpanded : Work → List (List ℕ) → ℕ → Type 0
IsExpanded w bs i = (x : State) → IsAt bs i x → (c : CpuId) → IsTurned w bs x c

-- the state from which state number j was reached has a number of at most i; the first was reached from none
abbrev pub IsSoon : List Step → ℕ → ℕ → Type 0
IsSoon steps zero i = ⊤
IsSoon steps (suc j) i = (step : Step) → slice_get steps (suc j) ≡ Some step → step.before ≤ i

-- each turn of each processor from state number i leads to a state that was reached from that one, or from one before it
abbrev pub IsSoonTurned : Work → List (List ℕ) → List Step → ℕ → Type 0
IsSoonTurned w bs steps i =
    (x : State) → IsAt bs i x → (c : CpuId) (e : Event) → next w x c (serial_hints w x c) ≡ Some e
    → (has : Has (IsAmong bs) (after w x 0 c e)) × IsSoon steps has.among.index i

-- breadth first: states were found in the order in which those were expanded from which they were reached, none of them later
-- than the next one to be expanded; so no way to a state has fewer steps than the one that was kept
pub record IsLayered (w : Work) (bs : List (List ℕ)) (steps : List Step) (done : ℕ) : Type 0 where
  pub rising : (i j : ℕ) (s t : Step) → i ≤ j → slice_get steps (suc i) ≡ Some s → slice_get steps (suc j) ≡ Some t → s.before ≤ t.before
  pub early : (i : ℕ) → IsSoon steps i done
  pub soon : (i : ℕ) → i < done → IsSoonTurned w bs steps i

-- n steps lead back from state number i to the first
abbrev pub IsDeep : List Step → ℕ → ℕ → Type 0
IsDeep steps i zero = i ≡ 0
IsDeep steps i (suc n) = (step : Step) × (0 < i) × (slice_get steps i ≡ Some step) × IsDeep steps step.before n

-- the first state is the initial one, each other was reached by a turn from one before it, and the first `done` are expanded;
-- each has its ranks for keys, and its bytes stand there once
pub record IsGathered (w : Work) (bs : List (List ℕ)) (steps : List Step) (done : ℕ) : Type 0 where
  pub start : State
  pub start_at : IsAt bs 0 start
  pub opens : IsSameOrder start (opening w)
  pub many : length steps ≡ length bs
  pub reached : (i : ℕ) (step : Step) → slice_get steps (suc i) ≡ Some step → IsReachedBy w bs (suc i) step
  pub fits : (i : ℕ) (x : State) → IsAt bs i x → KeysFit 0 x
  pub ranks : (i : ℕ) (x : State) → IsAt bs i x → ranked x ≡ x
  pub differ : (i j : ℕ) (b : List ℕ) → slice_get bs i ≡ Some b → slice_get bs j ≡ Some b → i ≡ j
  pub expanded : (i : ℕ) → i < done → IsExpanded w bs i
  pub within : done ≤ length bs
  pub layered : IsLayered w bs steps done

abbrev pub Gathers : Work → Graph → Type 0
Gathers w g = IsGathered w (packed g) (steps_of g) g.done

-- a graph that goes on from another: its states stay, and as many are expanded
pub record IsGrown (w : Work) (g h : Graph) : Type 0 where
  pub gathered : Gathers w h
  pub kept : (i : ℕ) (x : State) → IsAt (packed g) i x → IsAt (packed h) i x
  pub done : h.done ≡ g.done

-- of any two states the keys have another order, or they differ otherwise
abbrev pub AreApart : List (List ℕ) → Type 0
AreApart bs = (i j : ℕ) (x y : State) → IsAt bs i x → IsAt bs j y → IsSameOrder x y → i ≡ j

-- each run in which each processor reads the numbers of the state ends in one of the states, up to the order of keys
abbrev pub HasEveryRun : Work → List (List ℕ) → Type 0
HasEveryRun w bs = (es : List Entry) → IsRun w es → IsFresh w (opening w) es → Has (IsAmong bs) (final w (opening w) es)
