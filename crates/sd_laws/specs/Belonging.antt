-- Where threads stand: on which queues and processors each may be by its processor set, its binding and its effective
-- priority, and which processors each set has open.
-- Source: psrset(1M), pbind(1M), Solaris Internals (dispatch queues).
use Rattle.std.specs.Prelude.{◌≡◌, ◌≢◌, ℕ, ◌<◌, ◌≤◌, true, ◌&&◌, List, length, map, filter, ◌==◌, Option, Some, None, is_none, ⊤, ◌⊎◌}
use Rattle.std.specs.List.{range_with_len}
use Rattle.sd_types.specs.declared.numbers.CpuId.{CpuId}
use Rattle.sd_types.specs.declared.numbers.SetId.{SetId}
use Rattle.sd_types.specs.declared.works.Work.{Work}
use Rattle.sd_types.specs.Partitions.{cpu_of_number}
use Rattle.sd_types.specs.Priorities.{real_time_priority}
use Rattle.sd_state.specs.declared.states.Place.{Place}
use Rattle.sd_state.specs.declared.states.Place.TheVariants.{Running, Queued, RealTime}
use Rattle.sd_state.specs.declared.states.State.{State}
use Rattle.sd_state.specs.States.{thread_of, cpu_of, set_of, eff_of}
use Rattle.sd_machine.specs.Threads.{open_of}
use Rattle.sd_state.specs.Invariants.{PlacesAreThere, OneRuns, KeysDiffer, KeysWithin}

-- A thread of effective priority p, bound to a processor or to none, may stand on the queue of processor c: it is bound to c, or
-- it is bound to none and below 100.
abbrev pub MayQueue : ℕ → Option CpuId → CpuId → Type 0
MayQueue p bound c = ((bound ≡ None) × (p < real_time_priority)) ⊎ (bound ≡ Some c)

-- A thread may run on processor c: where it is bound to another one, the kernel's mark of c is set.
abbrev pub MayRun : State → Option CpuId → CpuId → Type 0
MayRun s bound c = (d : CpuId) → bound ≡ Some d → d.0 ≢ c.0 → (cpu_of s c.0).kernel ≡ true

-- A thread of this set, priority and binding belongs to the place: on a real-time queue, to that of its set, from priority 100
-- on and bound to no processor; on a processor or its queue, to one of its set.
abbrev pub BelongsAt : State → SetId → ℕ → Option CpuId → Place → Type 0
BelongsAt s set p bound (RealTime q k) = (real_time_priority ≤ p) × (bound ≡ None) × (q ≡ set)
BelongsAt s set p bound (Queued c k) = ((cpu_of s c.0).set ≡ set) × MayQueue p bound c
BelongsAt s set p bound (Running c) = ((cpu_of s c.0).set ≡ set) × MayRun s bound c
BelongsAt s set p bound _ = ⊤

-- the processor to which a thread is bound is in its set, and is not closing
abbrev pub IsBoundInSet : State → SetId → Option CpuId → Type 0
IsBoundInSet s set bound = (d : CpuId) → bound ≡ Some d → ((cpu_of s d.0).set ≡ set) × ((cpu_of s d.0).closing ≡ None)

-- each thread stands where its set, its priority and its binding ask
pub record Belongs (w : Work) (s : State) (t : ℕ) : Type 0 where
  pub place : BelongsAt s (set_of w t) (eff_of s t) (thread_of s t).body.bound (thread_of s t).place
  pub bound : IsBoundInSet s (set_of w t) (thread_of s t).body.bound

abbrev pub ThreadsBelong : Work → State → Type 0
ThreadsBelong w s = (t : ℕ) → Belongs w s t

-- the processors of a set that are not closing, in rising order
abbrev pub open_cpus : Work → State → ℕ → List CpuId
open_cpus w s p = map cpu_of_number (filter (λ c. ((cpu_of s c).set.0 == p) && is_none (cpu_of s c).closing) (range_with_len 0 w.cpus))

-- the open list of each set is these processors, and it has one
pub record IsOpenList (w : Work) (s : State) (p : ℕ) : Type 0 where
  pub exact : open_of s p ≡ open_cpus w s p
  pub some : 0 < length (open_of s p)

abbrev pub OpenListsAreExact : Work → State → Type 0
OpenListsAreExact w s = (p : ℕ) → p ≤ length w.sets → IsOpenList w s p

-- After n entries each thread is in exactly one place: there are as many threads as the workload declares, and the place of each is
-- one of the workload's; at most one thread runs on each processor; and the keys of a queue differ, and are at least -n and
-- less than 4096 + n.
pub record EachInOnePlace (w : Work) (n : ℕ) (s : State) : Type 0 where
  pub places : PlacesAreThere w s
  pub one_runs : OneRuns s
  pub keys_differ : KeysDiffer s
  pub keys_within : KeysWithin n s
