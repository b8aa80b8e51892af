-- The numbers that processors 0 to 63 show, as one pass over the threads from the last to the first finds them.
use Rattle.std.specs.Prelude.{ℕ, ◌+◌, max, List, [], ◌∷◌, replicate, slice_index, slice_set, Option, Some, None}
use Rattle.sd_types.specs.declared.numbers.CpuId.{CpuId}
use Rattle.sd_types.specs.declared.events.Which.{Which}
use Rattle.sd_types.specs.declared.events.Which.TheVariants.{Running as OfRunning, Queued as OfQueued}
use Rattle.sd_types.specs.Priorities.{eff}
use Rattle.sd_state.specs.declared.states.Place.{Place}
use Rattle.sd_state.specs.declared.states.Place.TheVariants.{Running, Queued}
use Rattle.sd_state.specs.declared.states.ThreadState.{ThreadState}

-- the processor on which a thread runs
abbrev pub running_at : Place → Option CpuId
running_at (Running c) = Some c
running_at _ = None

-- that on whose queue a thread stands that is bound to none
abbrev pub unbound_at : Place → Option CpuId → Option CpuId
unbound_at (Queued c k) None = Some c
unbound_at _ _ = None

-- that whose number a thread may be
abbrev pub shown_at : Which → ThreadState → Option CpuId
shown_at OfRunning x = running_at x.place
shown_at OfQueued x = unbound_at x.place x.body.bound

-- the number of a processor, which was `rest` without this thread: the first of those that run there, and the greatest
-- of those on the queue
abbrev pub number_with : Which → ℕ → ℕ → ℕ
number_with OfRunning n rest = n
number_with OfQueued n rest = max n rest

abbrev pub taken_at : Which → ℕ → Option CpuId → List ℕ → List ℕ
taken_at which n None numbers = numbers
taken_at which n (Some c) numbers = slice_set numbers c.0 (number_with which n (slice_index numbers c.0))

-- the numbers with one thread more
abbrev pub taken : Which → ThreadState → List ℕ → List ℕ
taken which x numbers = taken_at which (eff x.body + 1) (shown_at which x) numbers

abbrev pub pass : Which → List ThreadState → List ℕ
pass which [] = replicate 64 0
pass which (x ∷ xs) = taken which x (pass which xs)
