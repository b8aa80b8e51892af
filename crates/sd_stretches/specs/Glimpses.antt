-- What a history takes in of the state that an entry made, and the lists of the entry from it.
-- Source: Solaris Internals (turnstiles: priority inheritance; sleep queues); the lists are this project's own.
use Rattle.std.specs.Prelude.{ℕ, Bool, false, ◌&&◌, ◌==◌, List, Option, Some, None, position, slice_get}
use Rattle.sd_types.specs.declared.numbers.CpuId.{CpuId}
use Rattle.sd_types.specs.declared.numbers.ThreadId.{ThreadId}
use Rattle.sd_types.specs.declared.events.Event.{Event}
use Rattle.sd_types.specs.declared.events.Event.TheVariants.{Will}
use Rattle.sd_types.specs.declared.events.Entry.{Entry}
use Rattle.sd_state.specs.declared.states.State.{State}
use Rattle.sd_state.specs.States.{cpu_of}
use Rattle.sd_machine.specs.Threads.{greatest_waiting}
use Rattle.sd_frames.specs.Altered.{altered}
use Rattle.sd_stretches.specs.declared.sights.Doing.{Doing}
use Rattle.sd_stretches.specs.declared.sights.Doing.TheVariants.{Waiting}
use Rattle.sd_stretches.specs.declared.sights.Sight.{Sight}
use Rattle.sd_stretches.specs.declared.changes.HandOver.{HandOver}
use Rattle.sd_stretches.specs.declared.changes.Happening.{Happening}
use Rattle.sd_stretches.specs.declared.changes.Wakeup.{Wakeup}
use Rattle.sd_stretches.specs.declared.glimpses.Glimpse.{Glimpse}
use Rattle.sd_stretches.specs.Altered.{sight_among}
use Rattle.sd_stretches.specs.Changes.{is_above_base, is_priority, owner_of, waker_of, wanted_lock, woken_by}
use Rattle.sd_stretches.specs.Sights.{sights_of}

-- of an entry that hands priority on, the greatest priority of those who wait for its lock
abbrev pub greatest_by : State → Event → Option ℕ
greatest_by s (Will l o p at) = greatest_waiting l.0 s.threads
greatest_by s _ = None

-- and whether the priority that it hands on is above the owner's own
abbrev pub above_base_by : State → Event → Bool
above_base_by s (Will l o p at) = is_above_base (slice_get s.threads o.0) p
above_base_by s _ = false

-- of an entry that wakes a thread, the thread that runs on its processor
abbrev pub waker_by : State → CpuId → Event → Option ThreadId → Option ℕ
waker_by s c e None = None
waker_by s c e (Some u) = waker_of s c e

-- what is seen in a state that an entry made
abbrev pub glimpse_of : State → Entry → Glimpse
glimpse_of s e = record {
  tick = (cpu_of s e.cpu.0).count;
  sight = sight_among (altered e.event) (sights_of s);
  greatest = greatest_by s e.event;
  above_base = above_base_by s e.event;
  waker = waker_by s e.cpu e.event (woken_by e.event);
  owner = owner_of s (wanted_lock e.event);
}

-- The lists of an entry, from a glimpse and the sights of all threads.

abbrev pub waits_for : ℕ → Doing → Bool
waits_for l (Waiting m) = m.0 == l
waits_for l _ = false

-- is seen to wait for lock l with this priority
abbrev pub is_seen_giving : ℕ → ℕ → Sight → Bool
is_seen_giving l greatest x = waits_for l x.doing && (x.priority == greatest)

abbrev pub giver_among : List Sight → ℕ → Option ℕ → Option ℕ
giver_among sights l None = None
giver_among sights l (Some greatest) = position (λ x. is_seen_giving l greatest x) sights

abbrev pub is_inherited_by : Glimpse → ℕ → Bool
is_inherited_by g p = g.above_base && is_priority g.greatest p

abbrev pub hand_over_seen : List Sight → Glimpse → Entry → Event → Option HandOver
hand_over_seen sights g e (Will l o p at) =
    Some (record { entry = e.number; tick = g.tick; lock = l; waiter = giver_among sights l.0 g.greatest; owner = o; priority = p; inherited = is_inherited_by g p })
hand_over_seen sights g e _ = None

abbrev pub wakeup_seen : Glimpse → Entry → Option ThreadId → Option Wakeup
wakeup_seen g e None = None
wakeup_seen g e (Some u) = Some (record { entry = e.number; tick = g.tick; waker = g.waker; woken = u })

abbrev pub happening_seen : Glimpse → Entry → Happening
happening_seen g e = record { entry = e.number; cpu = e.cpu; tick = g.tick; event = e.event; owner = g.owner }
