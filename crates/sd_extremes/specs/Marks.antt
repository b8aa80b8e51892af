-- Where a thread ends: in which state that was found, by the turn of which processor, and the first and the last of these.
-- Source: this project's own.
use Rattle.std.specs.Prelude.{◌≡◌, ℕ, ◌<◌, ◌≤◌, ◌⊎◌, List, Option, Some, None, nat_lt, if◌then◌else◌}
use Rattle.sd_types.specs.declared.numbers.CpuId.{CpuId}
use Rattle.sd_types.specs.declared.numbers.ThreadId.{ThreadId}
use Rattle.sd_types.specs.declared.events.Event.{Event}
use Rattle.sd_types.specs.declared.events.Event.TheVariants.{Done}
use Rattle.sd_types.specs.declared.works.Work.{Work}
use Rattle.sd_state.specs.declared.states.State.{State}
use Rattle.sd_state.specs.States.{cpu_of}
use Rattle.sd_machine.specs.Events.{next}
use Rattle.sd_machine.specs.Runs.{serial_hints}
use Rattle.sd_search.specs.Graphs.{IsAt}
use Rattle.sd_extremes.specs.declared.marks.Mark.{Mark}
use Rattle.sd_extremes.specs.declared.marks.Span.{Span}

-- the thread that an event ends
abbrev pub ended_by : Event → Option ThreadId
ended_by (Done t) = Some t
ended_by _ = None

abbrev pub ended_if : Option Event → Option ThreadId
ended_if (Some e) = ended_by e
ended_if None = None

-- in state x the turn of processor c ends thread t
abbrev pub EndsNow : Work → State → CpuId → ThreadId → Type 0
EndsNow w x c t = next w x c (serial_hints w x c) ≡ Some (Done t)

-- in state number m.state the turn of m.cpu ends thread t, at tick m.tick
pub record IsMark (w : Work) (bs : List (List ℕ)) (t : ThreadId) (m : Mark) : Type 0 where
  pub state : State
  pub at : IsAt bs m.state state
  pub ends : EndsNow w state m.cpu t
  pub tick : (cpu_of state m.cpu.0).count ≡ m.tick

abbrev pub earlier : Mark → Mark → Mark
earlier a b = if nat_lt b.tick a.tick then b else a

abbrev pub later : Mark → Mark → Mark
later a b = if nat_lt a.tick b.tick then b else a

abbrev pub with_mark : Option Span → Mark → Span
with_mark None m = record { first = m; last = m }
with_mark (Some s) m = record { first = earlier s.first m; last = later s.last m }

-- the span goes from a first mark to a last one, and all marks of this kind lie between; without a span there is none
pub record IsSpan (w : Work) (bs : List (List ℕ)) (t : ThreadId) (kind : Mark → Type 0) (s : Span) : Type 0 where
  pub first : IsMark w bs t s.first
  pub last : IsMark w bs t s.last
  pub between : (m : Mark) → IsMark w bs t m → kind m → (s.first.tick ≤ m.tick) × (m.tick ≤ s.last.tick)

abbrev pub Spans : Work → List (List ℕ) → ThreadId → (Mark → Type 0) → Option Span → Type 0
Spans w bs t kind None = (m : Mark) → IsMark w bs t m → kind m → ⊥
Spans w bs t kind (Some s) = IsSpan w bs t kind s

-- in the first i states
abbrev pub IsBelow : ℕ → Mark → Type 0
IsBelow i m = m.state < i

-- or in state number i by one of the first c processors
abbrev pub IsBefore : ℕ → ℕ → Mark → Type 0
IsBefore i c m = (m.state < i) ⊎ ((m.state ≡ i) × (m.cpu.0 < c))
