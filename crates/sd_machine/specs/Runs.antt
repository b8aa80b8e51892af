-- Runs of the machine, and the runs that go in rounds.
-- Source: this project's own.
use Rattle.std.specs.Prelude.{◌≡◌, ◌≢◌, ℕ, zero, suc, ◌+◌, ◌<◌, List, [], ◌∷◌, ◌++◌, length, map, take, Option, Some, None, ⊤}
use Rattle.std.specs.List.{range_with_len}
use Rattle.sd_types.specs.declared.numbers.CpuId.{CpuId}
use Rattle.sd_types.specs.declared.events.Hints.{Hints}
use Rattle.sd_types.specs.declared.events.Which.{Which}
use Rattle.sd_types.specs.declared.events.Event.{Event}
use Rattle.sd_types.specs.declared.events.Entry.{Entry}
use Rattle.sd_types.specs.declared.works.Work.{Work}
use Rattle.sd_types.specs.Partitions.{cpu_of_number}
use Rattle.sd_state.specs.declared.states.State.{State}
use Rattle.sd_machine.specs.Events.{next, after}
use Rattle.sd_machine.specs.Hints.{hint_shown, reads}
use Rattle.sd_state.specs.Opening.{opening}

-- the state after these entries
unfoldable pub final : Work → State → List Entry → State
final w s [] = s
final w s (e ∷ es) = final w (after w s e.number e.cpu e.event) es

-- the state to which these entries lead from the initial one
abbrev pub final_state : Work → List Entry → State
final_state w es = final w (opening w) es

-- an entry with its own number is the step that its processor may make
abbrev pub IsStep : Work → State → Entry → Type 0
IsStep w s e = next w s e.cpu e.hints ≡ Some e.event

-- entries from number n on, each a step from the state before it
unfoldable pub IsRunFrom : Work → State → ℕ → List Entry → Type 0
IsRunFrom w s n [] = ⊤
IsRunFrom w s n (e ∷ es) = (e.number ≡ n) × IsStep w s e × IsRunFrom w (after w s e.number e.cpu e.event) (n + 1) es

unfoldable pub IsRun : Work → List Entry → Type 0
IsRun w es = IsRunFrom w (opening w) 0 es

-- the state after the first k entries
abbrev pub state_at : Work → List Entry → ℕ → State
state_at w es k = final_state w (take k es)

-- a run of n entries leads to the state
pub record IsReached (w : Work) (n : ℕ) (s : State) : Type 0 where
  pub entries : List Entry
  pub run : IsRun w entries
  pub many : length entries ≡ n
  pub ends : final_state w entries ≡ s

-- no processor can make an entry, whatever it reads
abbrev pub IsComplete : Work → State → Type 0
IsComplete w s = (c : CpuId) (hints : Option Hints) → next w s c hints ≡ None

-- The runs that go in rounds.

-- the numbers that the state shows of what is read
abbrev pub shown : State → Option (Which × List CpuId) → Option Hints
shown s None = None
shown s (Some r) = Some (record { which = r.0; numbers = record { items = map (hint_shown s r.0) r.1 } })

-- what a processor reads in a run that goes in rounds: the numbers of the state
unfoldable pub serial_hints : Work → State → CpuId → Option Hints
serial_hints w s c = shown s (reads w s c.0)

-- the hints of each entry are the numbers of the state before it
unfoldable pub IsFresh : Work → State → List Entry → Type 0
IsFresh w s [] = ⊤
IsFresh w s (e ∷ es) = (e.hints ≡ serial_hints w s e.cpu) × IsFresh w (after w s e.number e.cpu e.event) es

abbrev pub made : ℕ → CpuId → Option Hints → Option Event → List Entry
made n c hints None = []
made n c hints (Some e) = record { number = n; cpu = c; event = e; hints = hints } ∷ []

-- the entry that processor c makes where it has one
abbrev pub turn : Work → State → ℕ → CpuId → List Entry
turn w s n c = made n c (serial_hints w s c) (next w s c (serial_hints w s c))

-- the entries of one round, in which each processor of the list has a turn
unfoldable pub round : Work → State → ℕ → List CpuId → List Entry
round w s n [] = []
round w s n (c ∷ cs) = turn w s n c ++ round w (final w s (turn w s n c)) (n + length (turn w s n c)) cs

-- the round that follows these entries
abbrev pub round_after : Work → List CpuId → List Entry → List Entry
round_after w order es = round w (final w (opening w) es) (length es) order

-- the entries of the first k rounds, where round k takes the processors in the order orders k
unfoldable pub rounds : Work → (ℕ → List CpuId) → ℕ → List Entry
rounds w orders zero = []
rounds w orders (suc k) = rounds w orders k ++ round_after w (orders k) (rounds w orders k)

-- the run that goes in rounds, and ends with the first round that makes no entry
pub record IsSerial (w : Work) (orders : ℕ → List CpuId) (es : List Entry) : Type 0 where
  pub count : ℕ
  pub entries : es ≡ rounds w orders count
  pub goes_on : (k : ℕ) → k < count → round_after w (orders k) (rounds w orders k) ≢ []
  pub ends : round_after w (orders count) es ≡ []

-- the processors in rising order
abbrev pub rising : Work → List CpuId
rising w = map cpu_of_number (range_with_len 0 w.cpus)
