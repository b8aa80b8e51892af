-- What changes from one state to the next, and the entries that hand priority on or wake.
-- Source: Solaris Internals (turnstiles: priority inheritance; sleep queues); the lists are this project's own.
use Rattle.std.specs.Prelude.{ℕ, Bool, false, ◌&&◌, ◌==◌, nat_lt, List, [], ◌∷◌, length, Option, Some, None, option_to_list, position, slice_get, if◌then◌else◌}
use Rattle.std.specs.List.{flat_map, range_with_len}
use Rattle.sd_types.specs.declared.numbers.CpuId.{CpuId}
use Rattle.sd_types.specs.declared.numbers.LockId.{LockId}
use Rattle.sd_types.specs.declared.numbers.ThreadId.{ThreadId}
use Rattle.sd_types.specs.declared.events.Event.{Event}
use Rattle.sd_types.specs.declared.events.Event.TheVariants.{Block, Napend, Spin, Wake, Rouse, Unblock, Grant, SemaVWake, Will}
use Rattle.sd_types.specs.declared.events.Entry.{Entry}
use Rattle.sd_types.specs.Priorities.{base_of, eff}
use Rattle.sd_state.specs.declared.states.LockState.{LockState}
use Rattle.sd_state.specs.declared.states.LockState.TheVariants.{Owned}
use Rattle.sd_state.specs.declared.states.ThreadState.{ThreadState}
use Rattle.sd_state.specs.declared.states.State.{State}
use Rattle.sd_state.specs.States.{cpu_of}
use Rattle.sd_machine.specs.Threads.{greatest_waiting, is_waiting, runner}
use Rattle.sd_stretches.specs.declared.sights.Sight.{Sight}
use Rattle.sd_stretches.specs.declared.changes.Onset.{Onset}
use Rattle.sd_stretches.specs.declared.changes.Rank.{Rank}
use Rattle.sd_stretches.specs.declared.changes.Load.{Load}
use Rattle.sd_stretches.specs.declared.changes.HandOver.{HandOver}
use Rattle.sd_stretches.specs.declared.changes.Wakeup.{Wakeup}
use Rattle.sd_stretches.specs.declared.changes.Happening.{Happening}
use Rattle.sd_stretches.specs.Sights.{same_doing, same_rank, runnable}

abbrev pub onset_from : ℕ → ℕ → ℕ → Sight → Onset
onset_from t first tick x = record { thread = t; first = first; tick = tick; doing = x.doing; class = x.class; priority = x.priority }

-- what thread t does from a state on, where it is another thing than in the state before; at the start it is always
abbrev pub onset_if : ℕ → ℕ → ℕ → Option Sight → Option Sight → List Onset
onset_if t first tick old None = []
onset_if t first tick None (Some x) = onset_from t first tick x ∷ []
onset_if t first tick (Some y) (Some x) = if same_doing y.doing x.doing then [] else onset_from t first tick x ∷ []

-- of each thread, from the sights of a state and of the one before it
unfoldable pub onsets_between : List Sight → List Sight → ℕ → ℕ → List Onset
onsets_between old new first tick = flat_map (λ t. onset_if t first tick (slice_get old t) (slice_get new t)) (range_with_len 0 (length new))

abbrev pub rank_from : ℕ → ℕ → ℕ → Sight → Rank
rank_from t first tick x = record { thread = t; first = first; tick = tick; priority = x.priority; inherited = x.inherited }

abbrev pub rank_if : ℕ → ℕ → ℕ → Option Sight → Option Sight → List Rank
rank_if t first tick old None = []
rank_if t first tick None (Some x) = rank_from t first tick x ∷ []
rank_if t first tick (Some y) (Some x) = if same_rank y x then [] else rank_from t first tick x ∷ []

unfoldable pub ranks_between : List Sight → List Sight → ℕ → ℕ → List Rank
ranks_between old new first tick = flat_map (λ t. rank_if t first tick (slice_get old t) (slice_get new t)) (range_with_len 0 (length new))

-- how many stand on dispatch queues, where it is another number than before
abbrev pub load_if : List Sight → List Sight → ℕ → ℕ → List Load
load_if old new first tick = if runnable old == runnable new then [] else record { first = first; tick = tick; runnable = runnable new } ∷ []

-- The entries that hand priority on.

-- waits for lock l with this priority
abbrev pub is_giver : ℕ → ℕ → ThreadState → Bool
is_giver l greatest x = is_waiting l x.place && (eff x.body == greatest)

abbrev pub giver_of : State → ℕ → Option ℕ → Option ℕ
giver_of s l None = None
giver_of s l (Some greatest) = position (λ x. is_giver l greatest x) s.threads

-- the first that waits for the lock with the greatest priority of those who do
abbrev pub giver : State → ℕ → Option ℕ
giver s l = giver_of s l (greatest_waiting l s.threads)

abbrev pub is_above_base : Option ThreadState → ℕ → Bool
is_above_base None p = false
is_above_base (Some x) p = nat_lt (base_of x.body.class) p

abbrev pub is_priority : Option ℕ → ℕ → Bool
is_priority None p = false
is_priority (Some greatest) p = greatest == p

-- thread o, with this effective priority, has it from those who wait for lock l
abbrev pub is_inherited : State → ℕ → ℕ → ℕ → Bool
is_inherited s l o p = is_above_base (slice_get s.threads o) p && is_priority (greatest_waiting l s.threads) p

-- what an entry hands on, from the state that it made
abbrev pub hand_over_by : State → Entry → Event → Option HandOver
hand_over_by s e (Will l o p at) = Some (record { entry = e.number; tick = (cpu_of s e.cpu.0).count; lock = l; waiter = giver s l.0; owner = o; priority = p; inherited = is_inherited s l.0 o.0 p })
hand_over_by s e _ = None

abbrev pub hand_over_of : State → Entry → Option HandOver
hand_over_of s e = hand_over_by s e e.event

abbrev pub hand_overs_of : State → Option Entry → List HandOver
hand_overs_of s None = []
hand_overs_of s (Some e) = option_to_list (hand_over_of s e)

-- The entries that wake.

-- there is a thread, and it is this one
abbrev pub is_that_thread : ThreadId → Option ThreadId → Bool
is_that_thread t None = false
is_that_thread t (Some u) = u.0 == t.0

abbrev pub woken_by : Event → Option ThreadId
woken_by (Napend t at) = Some t
woken_by (Wake t k (Some (u, at))) = Some u
woken_by (Rouse k (Some (u, at))) = Some u
woken_by (Unblock l u at) = Some u
woken_by (Grant l u at) = Some u
woken_by (SemaVWake t k u at) = Some u
woken_by _ = None

-- the end of a nap is the clock's
abbrev pub waker_of : State → CpuId → Event → Option ℕ
waker_of s c (Napend t at) = None
waker_of s c _ = runner s c.0

abbrev pub wakeup_by : State → Entry → Option ThreadId → Option Wakeup
wakeup_by s e None = None
wakeup_by s e (Some u) = Some (record { entry = e.number; tick = (cpu_of s e.cpu.0).count; waker = waker_of s e.cpu e.event; woken = u })

abbrev pub wakeup_of : State → Entry → Option Wakeup
wakeup_of s e = wakeup_by s e (woken_by e.event)

abbrev pub wakeups_of : State → Option Entry → List Wakeup
wakeups_of s None = []
wakeups_of s (Some e) = option_to_list (wakeup_of s e)

-- The entries, without the numbers that they read.

-- the lock for which a thread spins or blocks
abbrev pub wanted_lock : Event → Option LockId
wanted_lock (Spin t l) = Some l
wanted_lock (Block t l) = Some l
wanted_lock _ = None

abbrev pub owner_in : Option LockState → Option ThreadId
owner_in (Some (Owned o)) = Some o
owner_in _ = None

-- a lock that is free, held by readers or passed on has no owner
abbrev pub owner_of : State → Option LockId → Option ThreadId
owner_of s None = None
owner_of s (Some l) = owner_in (slice_get s.locks l.0)

abbrev pub happening_of : State → Entry → Happening
happening_of s e =
    record { entry = e.number; cpu = e.cpu; tick = (cpu_of s e.cpu.0).count; event = e.event; owner = owner_of s (wanted_lock e.event) }

abbrev pub happenings_of : State → Option Entry → List Happening
happenings_of s None = []
happenings_of s (Some e) = happening_of s e ∷ []
