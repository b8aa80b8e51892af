-- The blocking cycles of a lock graph, as lists, and how they are found.
use Rattle.std.specs.Prelude.{◌≡◌, ℕ, zero, suc, ◌≤◌, ◌==◌, nat_lt, List, [], ◌∷◌, ◌++◌, Option, Some, None, option_map, ⊤, ◌⊎◌, ◌↔◌, if◌then◌else◌}
use Rattle.std.specs.List.{Contains}
use Rattle.sd_machine.specs.Graphs.{Wait, Graph, IsAhead, InCycle}

-- the thread ahead of t
abbrev pub owner_at : Graph → Option Wait → Option ℕ
owner_at g None = None
owner_at g (Some w) = g.owner w.lock

abbrev pub ahead : Graph → ℕ → Option ℕ
ahead g t = owner_at g (g.waits t)

-- x is one of the list
abbrev pub IsIn : ℕ → List ℕ → Type 0
IsIn x [] = ⊥
IsIn x (y ∷ ys) = (x ≡ y) ⊎ IsIn x ys

-- each is different from those after it
abbrev pub AreApart : List ℕ → Type 0
AreApart [] = ⊤
AreApart (x ∷ xs) = (IsIn x xs → ⊥) × AreApart xs

-- each waits on a lock that the next owns, and the last on one that first owns
abbrev pub IsLinked : Graph → ℕ → List ℕ → Type 0
IsLinked g first [] = ⊤
IsLinked g first (t ∷ []) = IsAhead g t first
IsLinked g first (t ∷ u ∷ us) = IsAhead g t u × IsLinked g first (u ∷ us)

-- a blocking cycle: different threads, each waiting on a lock that the next owns, and the last on one that the first owns
abbrev pub IsCycle : Graph → List ℕ → Type 0
IsCycle g [] = ⊥
IsCycle g (t ∷ ts) = IsLinked g t (t ∷ ts) × AreApart (t ∷ ts)

-- the first of the list is its least
abbrev pub IsFromLeast : List ℕ → Type 0
IsFromLeast [] = ⊥
IsFromLeast (t ∷ ts) = (x : ℕ) → IsIn x (t ∷ ts) → t ≤ x

-- t and what comes after it on the way back to first; none where a thread on the way has a smaller number than first
abbrev pub joined : ℕ → ℕ → Option ℕ → (ℕ → Option (List ℕ)) → Option (List ℕ)
joined first t None more = None
joined first t (Some u) more = if u == first then Some (t ∷ []) else if nat_lt u first then None else option_map (λ ts. t ∷ ts) (more u)

-- the threads from t to the one that waits on a lock of first, where there are at most n
unfoldable pub lap : Graph → ℕ → ℕ → ℕ → Option (List ℕ)
lap g first zero t = None
lap g first (suc n) t = joined first t (ahead g t) (λ u. lap g first n u)

abbrev pub none_or_one : {X : Type 0} → Option X → List X
none_or_one None = []
none_or_one (Some x) = x ∷ []

-- the cycles whose least thread is below k, of a graph with count threads
unfoldable pub cycles_below : Graph → ℕ → ℕ → List (List ℕ)
cycles_below g count zero = []
cycles_below g count (suc k) = cycles_below g count k ++ none_or_one (lap g k count k)

abbrev pub cycles : Graph → ℕ → List (List ℕ)
cycles g count = cycles_below g count count

-- the lists are the blocking cycles, each once, and each from its least thread on
pub record AreCycles (g : Graph) (lines : List (List ℕ)) : Type 0 where
  pub each : (ts : List ℕ) → Contains lines ts → IsCycle g ts × IsFromLeast ts
  pub every : (o : ℕ) → InCycle g o → (ts : List ℕ) × Contains lines ts × IsIn o ts
  -- a list of different threads that form a cycle has the threads of one of them
  pub all : (xs : List ℕ) → IsCycle g xs → (ts : List ℕ) × Contains lines ts × ((x : ℕ) → IsIn x xs ↔ IsIn x ts)
  pub once : (o : ℕ) (ts us : List ℕ) → Contains lines ts → Contains lines us → IsIn o ts → IsIn o us → ts ≡ us
