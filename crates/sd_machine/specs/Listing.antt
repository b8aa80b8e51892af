-- What a list of the blocking cycles of a lock graph is.
use Rattle.std.specs.Prelude.{ℕ, ◌<◌, List, [], ◌∷◌, map, ⊤, ◌↔◌}
use Rattle.std.specs.List.{Contains}
use Rattle.sd_machine.specs.Graphs.{Graph, InCycle}
use Rattle.sd_machine.specs.Cycles.{IsIn, IsCycle, IsFromLeast}

-- the first thread of a cycle, its least where it is told from there on
abbrev pub head_of : List ℕ → ℕ
head_of [] = 0
head_of (t ∷ ts) = t

-- each is less than those after it
abbrev pub AreRising : List ℕ → Type 0
AreRising [] = ⊤
AreRising (x ∷ xs) = ((y : ℕ) → IsIn y xs → x < y) × AreRising xs

-- the lists are the blocking cycles, each from its least thread on, and no other; each once, in order of these threads
pub record ListsCycles (g : Graph) (lines : List (List ℕ)) : Type 0 where
  pub listed : (ts : List ℕ) → Contains lines ts ↔ (IsCycle g ts × IsFromLeast ts)
  pub rising : AreRising (map head_of lines)
  -- the threads that are behind themselves are those of these lists
  pub every : (o : ℕ) → InCycle g o ↔ ((ts : List ℕ) × Contains lines ts × IsIn o ts)
