-- What whoever watches a search is told: behind each slice of states that were expanded without an end, how many states were found, and how
-- many turns of processors lead to the last of them.
-- Source: this project's own.
use Rattle.std.specs.Prelude.{◌≡◌, ℕ, zero, suc, ◌*◌, ◌-◌, ◌<◌, length}
use Rattle.sd_types.specs.declared.works.Work.{Work}
use Rattle.sd_search.specs.declared.graph.Graph.{Graph}
use Rattle.sd_search.specs.Graphs.{Gathers, IsDeep, packed, steps_of}

-- how many states are expanded between two calls
abbrev pub slice : ℕ
slice = 50000

-- a search of the workload has expanded `done` states and is not at its end; it has found so many, and so many turns lead to the last
pub record IsReport (w : Work) (done states depth : ℕ) : Type 0 where
  pub graph : Graph
  pub gathered : Gathers w graph
  pub expanded : graph.done ≡ done
  pub unfinished : graph.done < length (packed graph)
  pub found : states ≡ length (packed graph)
  pub deep : IsDeep (steps_of graph) (length (packed graph) - 1) depth

-- from what it was to what it is by one call, whose numbers are those of such a search
pub record IsNoted {W : Type 0} (Noted : W → W → ℕ → ℕ → Type 0) (w : Work) (done : ℕ) (before after : W) : Type 0 where
  pub states : ℕ
  pub depth : ℕ
  pub report : IsReport w done states depth
  pub call : Noted before after states depth

-- by n calls: before each call a slice more had been expanded
abbrev pub AreNoted : {W : Type 0} → (W → W → ℕ → ℕ → Type 0) → Work → ℕ → W → W → Type 0
AreNoted {W} Noted w zero before after = after ≡ before
AreNoted {W} Noted w (suc n) before after = (between : W) × AreNoted Noted w n before between × IsNoted Noted w (suc n * slice) between after

-- by the calls of one search, of which there may be none
pub record IsWatched {W : Type 0} (Noted : W → W → ℕ → ℕ → Type 0) (w : Work) (before after : W) : Type 0 where
  pub calls : ℕ
  pub noted : AreNoted Noted w calls before after
