-- What an entry changes of what is seen: it alters one thread at most.
-- Source: this project's own.
use Rattle.std.specs.Prelude.{◌≡◌, ℕ, ◌+◌, ◌-◌, Bool, true, false, min, List, [], ◌∷◌, length, Option, Some, None, slice_get, slice_set, if◌then◌else◌}
use Rattle.sd_types.specs.declared.numbers.CpuId.{CpuId}
use Rattle.sd_types.specs.declared.events.Event.{Event}
use Rattle.sd_types.specs.declared.works.Work.{Work}
use Rattle.sd_state.specs.declared.states.State.{State}
use Rattle.sd_machine.specs.Events.{after}
use Rattle.sd_frames.specs.Altered.{altered}
use Rattle.sd_stretches.specs.declared.changes.Load.{Load}
use Rattle.sd_stretches.specs.declared.changes.Onset.{Onset}
use Rattle.sd_stretches.specs.declared.changes.Rank.{Rank}
use Rattle.sd_stretches.specs.declared.sights.Sight.{Sight}
use Rattle.sd_stretches.specs.Changes.{onset_if, rank_if}
use Rattle.sd_stretches.specs.Sights.{is_runnable, same_truth, sights_of}

-- the same threads, and all but this one are seen as before
pub record AlikeBut (o : Option ℕ) (old new : List Sight) : Type 0 where
  pub many : length new ≡ length old
  pub others : (u : ℕ) → (o ≡ Some u → ⊥) → slice_get new u ≡ slice_get old u

-- of every state, whether or not a run reaches it, and every event
abbrev pub EventsAlterOneSight : Type 0
EventsAlterOneSight = (w : Work) (s : State) (n : ℕ) (c : CpuId) (e : Event) → AlikeBut (altered e) (sights_of s) (sights_of (after w s n c e))

-- the sight of the thread that is altered, if there is one
abbrev pub sight_among : Option ℕ → List Sight → Option Sight
sight_among None new = None
sight_among (Some t) new = slice_get new t

-- What follows for the lists, from the sights of one thread alone: x is its new one.

abbrev pub onsets_by : Option ℕ → ℕ → ℕ → List Sight → Option Sight → List Onset
onsets_by None first tick old x = []
onsets_by (Some t) first tick old x = onset_if t first tick (slice_get old t) x

abbrev pub ranks_by : Option ℕ → ℕ → ℕ → List Sight → Option Sight → List Rank
ranks_by None first tick old x = []
ranks_by (Some t) first tick old x = rank_if t first tick (slice_get old t) x

-- how many threads are runnable since the last of these: none before the first
abbrev pub load_count : Option Load → ℕ
load_count None = 0
load_count (Some x) = x.runnable

abbrev pub last_count : List Load → ℕ
last_count xs = load_count (slice_get xs (length xs - 1))

-- one thread comes to a queue, or leaves one
abbrev pub one_moved : Bool → ℕ → ℕ
one_moved true n = min (n + 1) 18446744073709551615
one_moved false n = n - 1

abbrev pub load_by_sight : ℕ → ℕ → ℕ → Option Sight → Option Sight → List Load
load_by_sight n first tick (Some y) (Some x) =
    if same_truth (is_runnable y) (is_runnable x) then [] else record { first = first; tick = tick; runnable = one_moved (is_runnable x) n } ∷ []
load_by_sight n first tick old new = []

abbrev pub loads_by : ℕ → Option ℕ → ℕ → ℕ → List Sight → Option Sight → List Load
loads_by n None first tick old x = []
loads_by n (Some t) first tick old x = load_by_sight n first tick (slice_get old t) x

abbrev pub with_sight : List Sight → ℕ → Option Sight → List Sight
with_sight old t None = old
with_sight old t (Some x) = slice_set old t x

abbrev pub sights_by : Option ℕ → List Sight → Option Sight → List Sight
sights_by None old x = old
sights_by (Some t) old x = with_sight old t x
