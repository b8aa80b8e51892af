-- How many entries a run has at most.
-- Source: this project's own.
use Rattle.std.specs.Prelude.{◌≡◌, ℕ, ◌<◌, ◌≤◌, ◌⊎◌, List, length, Option, Some, None}
use Rattle.sd_types.specs.declared.events.Entry.{Entry}
use Rattle.sd_types.specs.declared.works.Work.{Work}
use Rattle.sd_search.specs.declared.graph.Graph.{Graph}
use Rattle.sd_search.specs.Graphs.{packed}
use Rattle.sd_extremes.specs.WholeRuns.{IsFreshRun}

-- a run in which each processor reads the numbers of the state has so many entries, and none has more
pub record HasMost (w : Work) (k : ℕ) : Type 0 where
  pub entries : List Entry
  pub run : IsFreshRun w entries
  pub many : length entries ≡ k
  pub most : (es : List Entry) → IsFreshRun w es → length es ≤ k

-- such a run has so many entries, or more
pub record HasLongRun (w : Work) (k : ℕ) : Type 0 where
  pub entries : List Entry
  pub run : IsFreshRun w entries
  pub many : k ≤ length entries

-- the greatest number that is told
abbrev pub greatest_told : ℕ
greatest_told = 4294967295

-- so many entries, after a search of all states; none is told only where a run has so many entries that none could be told, or as many as there
-- are states: that run comes to a state twice, and could go round from there without end
abbrev pub IsLongestRun : Work → ℕ → Option ℕ → Type 0
IsLongestRun w states (Some k) = HasMost w k
IsLongestRun w states None = HasLongRun w greatest_told ⊎ HasLongRun w states

-- where not all states were searched, none is told
abbrev pub IsLongestFound : Work → Graph → Option ℕ → Type 0
IsLongestFound w g entries = ((g.done < length (packed g)) × (entries ≡ None)) ⊎ ((length (packed g) ≤ g.done) × IsLongestRun w (length (packed g)) entries)
