-- The stretches of a thread and the slices of a processor, from the onsets of all threads, and the levels of a thread's
-- priority, from its ranks.
-- Source: this project's own.
use Rattle.std.specs.Prelude.{ℕ, ◌-◌, ◌==◌, List, [], ◌∷◌, filter, Option, Some, None}
use Rattle.sd_stretches.specs.Sights.{runs_on}
use Rattle.sd_stretches.specs.declared.changes.Onset.{Onset}
use Rattle.sd_stretches.specs.declared.changes.Rank.{Rank}
use Rattle.sd_stretches.specs.declared.changes.Wakeup.{Wakeup}
use Rattle.sd_stretches.specs.declared.rows.Stretch.{Stretch}
use Rattle.sd_stretches.specs.declared.rows.Level.{Level}

-- those of one thread
abbrev pub own_onsets : ℕ → List Onset → List Onset
own_onsets t xs = filter (λ x. x.thread == t) xs

abbrev pub stretch_from : Onset → ℕ → ℕ → Stretch
stretch_from x last to = record {
  thread = x.thread;
  first = x.first;
  last = last;
  from = x.tick;
  to = to;
  doing = x.doing;
  class = x.class;
  priority = x.priority;
}

-- from an onset to the next one, or to the end of the run
abbrev pub stretch_to : ℕ → ℕ → Onset → Option Onset → Stretch
stretch_to entries end x None = stretch_from x entries end
stretch_to entries end x (Some y) = stretch_from x (y.first - 1) y.tick

abbrev pub next_of : {A : Type 0} → List A → Option A
next_of [] = None
next_of (y ∷ ys) = Some y

unfoldable pub stretches_of : ℕ → ℕ → List Onset → List Stretch
stretches_of entries end [] = []
stretches_of entries end (x ∷ xs) = stretch_to entries end x (next_of xs) ∷ stretches_of entries end xs

-- the stretches of thread t, from the onsets of a run of so many entries, which ended at this tick
unfoldable pub stretches : ℕ → List Onset → ℕ → ℕ → List Stretch
stretches t xs entries end = stretches_of entries end (own_onsets t xs)

-- the stretches of all threads, in the order in which they begin: each lasts to the next onset of its thread
unfoldable pub all_stretches : List Onset → ℕ → ℕ → List Stretch
all_stretches [] entries end = []
all_stretches (x ∷ xs) entries end = stretch_to entries end x (next_of (own_onsets x.thread xs)) ∷ all_stretches xs entries end

-- those of one thread
abbrev pub own_stretches : ℕ → List Stretch → List Stretch
own_stretches t xs = filter (λ x. x.thread == t) xs

-- the slices of processor c: the stretches over which a thread runs on it, in the order in which they begin
unfoldable pub slices : ℕ → List Onset → ℕ → ℕ → List Stretch
slices c xs entries end = filter (λ x. runs_on c x.doing) (all_stretches xs entries end)

abbrev pub own_ranks : ℕ → List Rank → List Rank
own_ranks t xs = filter (λ x. x.thread == t) xs

-- the wakeups of one thread
abbrev pub own_wakeups : ℕ → List Wakeup → List Wakeup
own_wakeups t xs = filter (λ x. x.woken.0 == t) xs

abbrev pub level_from : Rank → ℕ → Level
level_from x to = record { first = x.first; from = x.tick; to = to; priority = x.priority; inherited = x.inherited }

abbrev pub level_to : ℕ → Rank → Option Rank → Level
level_to end x None = level_from x end
level_to end x (Some y) = level_from x y.tick

unfoldable pub levels_of : ℕ → List Rank → List Level
levels_of end [] = []
levels_of end (x ∷ xs) = level_to end x (next_of xs) ∷ levels_of end xs

-- the levels of thread t's priority, from the ranks of a run that ended at this tick
unfoldable pub levels : ℕ → List Rank → ℕ → List Level
levels t xs end = levels_of end (own_ranks t xs)
