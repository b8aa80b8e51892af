-- The turns from the states of a graph as edges.
-- Source: this project's own.
use Rattle.std.specs.Prelude.{◌≡◌, ℕ, ◌<◌, List, [], ◌∷◌, length, Option, Some, None, slice_get}
use Rattle.std.specs.List.{Contains}
use Rattle.sd_types.specs.declared.numbers.CpuId.{CpuId}
use Rattle.sd_types.specs.declared.numbers.ThreadId.{ThreadId}
use Rattle.sd_types.specs.declared.events.Event.{Event}
use Rattle.sd_types.specs.declared.works.Work.{Work}
use Rattle.sd_state.specs.declared.states.State.{State}
use Rattle.sd_state.specs.States.{cpu_of}
use Rattle.sd_machine.specs.Events.{next}
use Rattle.sd_machine.specs.Runs.{serial_hints}
use Rattle.sd_search.specs.declared.turning.Turn.{Turn}
use Rattle.sd_search.specs.Graphs.{IsAt}
use Rattle.sd_search.specs.Turns.{LeadsTo}
use Rattle.sd_longest.specs.declared.edges.Edge.{Edge}
use Rattle.sd_longest.specs.Effects.{effect_of}

abbrev pub edge_of : State → CpuId → ThreadId → Turn → Edge
edge_of x c t turn = record { cpu = c; tick = (cpu_of x c.0).count; effect = effect_of t turn.event; to = turn.to }

abbrev pub edges_of : State → CpuId → ThreadId → Option Turn → List Edge
edges_of x c t None = []
edges_of x c t (Some turn) = edge_of x c t turn ∷ []

-- the edge is the turn of its processor from state x, for the waits of thread t
pub record IsTurnEdge (w : Work) (bs : List (List ℕ)) (t : ThreadId) (x : State) (e : Edge) : Type 0 where
  pub event : Event
  pub makes : next w x e.cpu (serial_hints w x e.cpu) ≡ Some event
  pub leads : LeadsTo w bs x e.cpu event e.to
  pub effect : e.effect ≡ effect_of t event
  pub tick : e.tick ≡ (cpu_of x e.cpu.0).count

-- the edges are turns from state number i, and have that of each of the first n processors
pub record HasTurns (w : Work) (bs : List (List ℕ)) (t : ThreadId) (i n : ℕ) (row : List Edge) : Type 0 where
  pub are : (x : State) (e : Edge) → IsAt bs i x → Contains row e → IsTurnEdge w bs t x e
  pub all : (x : State) (c : CpuId) (event : Event) → IsAt bs i x → c.0 < n → next w x c (serial_hints w x c) ≡ Some event → (e : Edge) × Contains row e × (e.cpu ≡ c)

-- of each of the first n states there is a row of all its turns
pub record AreRows (w : Work) (bs : List (List ℕ)) (t : ThreadId) (n : ℕ) (rows : List (List Edge)) : Type 0 where
  pub many : length rows ≡ n
  pub each : (i : ℕ) (row : List Edge) → slice_get rows i ≡ Some row → HasTurns w bs t i w.cpus row
