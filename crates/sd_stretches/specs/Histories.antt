-- The lists of a run: what its states and entries show, one state after the other.
-- Source: this project's own.
use Rattle.std.specs.Prelude.{◌≡◌, ℕ, zero, suc, ◌+◌, List, [], length, Option, Some, None, slice_get}
use Rattle.std.specs.List.{flat_map, range_with_len}
use Rattle.sd_types.specs.declared.events.Entry.{Entry}
use Rattle.sd_types.specs.declared.works.Work.{Work}
use Rattle.sd_state.specs.declared.states.State.{State}
use Rattle.sd_state.specs.States.{cpu_of}
use Rattle.sd_state.specs.Opening.{opening}
use Rattle.sd_machine.specs.Runs.{final, state_at}
use Rattle.sd_stretches.specs.declared.sights.Sight.{Sight}
use Rattle.sd_stretches.specs.declared.changes.Onset.{Onset}
use Rattle.sd_stretches.specs.declared.changes.Rank.{Rank}
use Rattle.sd_stretches.specs.declared.changes.Load.{Load}
use Rattle.sd_stretches.specs.declared.changes.HandOver.{HandOver}
use Rattle.sd_stretches.specs.declared.changes.Wakeup.{Wakeup}
use Rattle.sd_stretches.specs.declared.changes.Happening.{Happening}
use Rattle.sd_stretches.specs.declared.histories.History.{History}
use Rattle.sd_stretches.specs.Sights.{sights_of}
use Rattle.sd_stretches.specs.Changes.{onsets_between, ranks_between, load_if, hand_overs_of, happenings_of, wakeups_of}

-- a state of a run, by the number of entries that made it: what was seen in the state before it, and the entry between
pub record Moment : Type 0 where
  pub first : ℕ
  pub earlier : List Sight
  pub state : State
  pub entry : Option Entry

abbrev pub sights_before : Work → List Entry → ℕ → List Sight
sights_before w es zero = []
sights_before w es (suc k) = sights_of (state_at w es k)

abbrev pub entry_before : List Entry → ℕ → Option Entry
entry_before es zero = None
entry_before es (suc k) = slice_get es k

unfoldable pub moment : Work → List Entry → ℕ → Moment
moment w es k = record { first = k; earlier = sights_before w es k; state = state_at w es k; entry = entry_before es k }

-- the count of the processor that made the entry, 0 at the start
abbrev pub tick_by : State → Option Entry → ℕ
tick_by s None = 0
tick_by s (Some e) = (cpu_of s e.cpu.0).count

abbrev pub tick_of : Moment → ℕ
tick_of m = tick_by m.state m.entry

abbrev pub onsets_in : Moment → List Onset
onsets_in m = onsets_between m.earlier (sights_of m.state) m.first (tick_of m)

abbrev pub ranks_in : Moment → List Rank
ranks_in m = ranks_between m.earlier (sights_of m.state) m.first (tick_of m)

abbrev pub loads_in : Moment → List Load
loads_in m = load_if m.earlier (sights_of m.state) m.first (tick_of m)

abbrev pub hand_overs_in : Moment → List HandOver
hand_overs_in m = hand_overs_of m.state m.entry

abbrev pub wakeups_in : Moment → List Wakeup
wakeups_in m = wakeups_of m.state m.entry

abbrev pub happenings_in : Moment → List Happening
happenings_in m = happenings_of m.state m.entry

-- what all states of a run show, in order
unfoldable pub over : {A : Type 0} → (Moment → List A) → Work → List Entry → List A
over f w es = flat_map (λ k. f (moment w es k)) (range_with_len 0 (length es + 1))

-- these are the lists of these entries
pub record IsHistory (w : Work) (es : List Entry) (h : History) : Type 0 where
  pub onsets : h.onsets.items ≡ over onsets_in w es
  pub ranks : h.ranks.items ≡ over ranks_in w es
  pub loads : h.loads.items ≡ over loads_in w es
  pub hand_overs : h.hand_overs.items ≡ over hand_overs_in w es
  pub wakeups : h.wakeups.items ≡ over wakeups_in w es
  pub happenings : h.happenings.items ≡ over happenings_in w es
  pub sights : h.sights.items ≡ sights_of (final w (opening w) es)
  pub entries : h.entries ≡ length es
