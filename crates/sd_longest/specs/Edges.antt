-- A graph whose edges have ticks and open waits or end them, and the waits along its walks: an edge opens one, edges follow that do
-- not end it, and an edge ends it. It is as long as the tick of the last is above that of the first.
-- Source: this project's own.
use Rattle.std.specs.Prelude.{◌≡◌, ℕ, ◌-◌, ◌<◌, ◌≤◌, List, [], ◌∷◌, ◌++◌, length, map, slice_get, Option, Some, None, Vec, ⊤}
use Rattle.std.specs.declared.alloc.Global.{Global}
use Rattle.sd_types.specs.declared.numbers.CpuId.{CpuId}
use Rattle.sd_longest.specs.declared.edges.Edge.{Edge}
use Rattle.sd_longest.specs.declared.edges.Effect.TheVariants.{Opens, Ends}
use Rattle.sd_longest.specs.declared.longest.Wait.{Wait}

-- the edges from each state
abbrev pub rows_of : List (Vec Edge Global) → List (List Edge)
rows_of vs = map (λ v. v.items) vs

-- the edge leads from state number i
pub record IsEdge (rows : List (List Edge)) (i : ℕ) (e : Edge) : Type 0 where
  pub row : List Edge
  pub row_at : slice_get rows i ≡ Some row
  pub place : ℕ
  pub at : slice_get row place ≡ Some e

-- each edge leads to a state
abbrev pub LeadInside : List (List Edge) → Type 0
LeadInside rows = (i : ℕ) (e : Edge) → IsEdge rows i e → e.to < length rows

-- these edges, none of which ends a wait, lead one after another from state number i to state number j
unfoldable pub Lead : List (List Edge) → ℕ → List Edge → ℕ → Type 0
Lead rows i [] j = i ≡ j
Lead rows i (e ∷ es) j = IsEdge rows i e × (e.effect ≡ Ends → ⊥) × Lead rows e.to es j

-- these edges lead one after another from state number i
unfoldable pub Follow : List (List Edge) → ℕ → List Edge → Type 0
Follow rows i [] = ⊤
Follow rows i (e ∷ es) = IsEdge rows i e × Follow rows e.to es

-- so many edges do, or more
pub record HasWay (rows : List (List Edge)) (i n : ℕ) : Type 0 where
  pub edges : List Edge
  pub follow : Follow rows i edges
  pub many : n ≤ length edges

-- from state number i an edge opens a wait, which passes along others to the one that ends it
pub record IsWait (rows : List (List Edge)) (i : ℕ) (opening : Edge) (between : List Edge) (ending : Edge) : Type 0 where
  pub opening_at : IsEdge rows i opening
  pub opens : opening.effect ≡ Opens
  pub state : ℕ
  pub lead : Lead rows opening.to between state
  pub ending_at : IsEdge rows state ending
  pub ends : ending.effect ≡ Ends

abbrev pub cpus_of : Edge → List Edge → Edge → List CpuId
cpus_of opening between ending = opening.cpu ∷ (map (λ e. e.cpu) between ++ ending.cpu ∷ [])

-- the wait is one of the graph
pub record IsFound (rows : List (List Edge)) (x : Wait) : Type 0 where
  pub opening : Edge
  pub between : List Edge
  pub ending : Edge
  pub wait : IsWait rows x.from opening between ending
  pub cpus : x.cpus.items ≡ cpus_of opening between ending
  pub ticks : ending.tick - opening.tick ≡ x.ticks

-- none is longer; or there is none
abbrev pub IsLongest : List (List Edge) → Option Wait → Type 0
IsLongest rows (Some x) = IsFound rows x × ((i : ℕ) (a : Edge) (bs : List Edge) (c : Edge) → IsWait rows i a bs c → c.tick - a.tick ≤ x.ticks)
IsLongest rows None = (i : ℕ) (a : Edge) (bs : List Edge) (c : Edge) → IsWait rows i a bs c → ⊥
