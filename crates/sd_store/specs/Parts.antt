-- The parts of a state that look-ups and changes name.
-- Source: this project's own; chains of turnstiles and of sleepers as in Solaris Internals.
use Rattle.std.specs.Prelude.{◌≡◌, ℕ, ◌%◌, ◌⊎◌, List, [], ◌∷◌, Option, Some, None}
use Rattle.sd_types.specs.declared.numbers.ChanId.{ChanId}
use Rattle.sd_types.specs.declared.numbers.CpuId.{CpuId}
use Rattle.sd_types.specs.declared.numbers.LockId.{LockId}
use Rattle.sd_types.specs.declared.numbers.SetId.{SetId}
use Rattle.sd_types.specs.declared.numbers.ThreadId.{ThreadId}
use Rattle.sd_types.specs.declared.numbers.HomeId.TheVariants as home
use Rattle.sd_types.specs.declared.events.Put.{Put}
use Rattle.sd_types.specs.declared.events.Put.TheVariants.{Cpu, RealTime}
use Rattle.sd_types.specs.declared.works.Work.{Work}
use Rattle.sd_state.specs.declared.states.CpuState.{CpuState}
use Rattle.sd_state.specs.declared.states.LockState.{LockState}
use Rattle.sd_state.specs.declared.states.LockState.TheVariants.{Owned}
use Rattle.sd_state.specs.declared.states.State.{State}
use Rattle.sd_state.specs.States.{cpu_of, set_of}
use Rattle.sd_machine.specs.Changes.{cpu_put}
use Rattle.sd_store.specs.declared.parts.CpuView.{CpuView}
use Rattle.sd_store.specs.declared.parts.Part.{Part}
use Rattle.sd_store.specs.declared.parts.Part.TheVariants.{Home, Thread, Actor}
use Rattle.sd_store.specs.declared.spots.Destination.{Destination}
use Rattle.sd_store.specs.declared.spots.Destination.TheVariants as to

abbrev pub number : ThreadId → ℕ
number t = t.0

abbrev pub actor_part : CpuId → Part
actor_part c = Actor c

abbrev pub cpu_part : CpuId → Part
cpu_part c = Home (home.Cpu c)

abbrev pub real_time_part : SetId → Part
real_time_part p = Home (home.RealTime p)

abbrev pub chain_part : LockId → Part
chain_part l = Home (home.Chain (l.0 % 64))

abbrev pub sleepers_part : ChanId → Part
sleepers_part k = Home (home.Sleepers (k.0 % 64))

abbrev pub thread_part : ThreadId → Part
thread_part t = Thread t

-- one of the parts
abbrev pub IsAmong : Part → List Part → Type 0
IsAmong p [] = ⊥
IsAmong p (q ∷ qs) = (p ≡ q) ⊎ IsAmong p qs

-- a processor with the real-time queue of its set
abbrev pub ready_parts : State → CpuId → List Part
ready_parts s c = cpu_part c ∷ real_time_part (cpu_of s c.0).set ∷ []

-- the thread that a look-up found
abbrev pub found_parts : Option ThreadId → List Part
found_parts None = []
found_parts (Some t) = thread_part t ∷ []

-- the owner of a lock
abbrev pub owner_parts : LockState → List Part
owner_parts (Owned o) = thread_part o ∷ []
owner_parts _ = []

abbrev pub bound_parts : Option CpuId → List Part
bound_parts None = []
bound_parts (Some d) = cpu_part d ∷ []

-- a thread, the processor to which it is put, and where it goes to the real-time queue of its partition, that queue
abbrev pub queue_parts : Work → ThreadId → Put → List Part
queue_parts w t (Cpu x) = []
queue_parts w t (RealTime x) = real_time_part (set_of w t.0) ∷ []

abbrev pub put_parts : Work → ThreadId → Put → List Part
put_parts w t at = thread_part t ∷ cpu_part (cpu_put at) ∷ queue_parts w t at

abbrev pub destination_parts : Destination → List Part
destination_parts (to.Queue d end) = cpu_part d ∷ []
destination_parts (to.RealTime p end) = real_time_part p ∷ []
destination_parts (to.Turnstile l side) = chain_part l ∷ []
destination_parts (to.SleepQueue k) = sleepers_part k ∷ []
destination_parts (to.Nap due) = []
destination_parts to.Nowhere = []

-- a processor without its count and its duty
abbrev pub view_of : CpuState → CpuView
view_of x = record { user = x.user; kernel = x.kernel; set = x.set; closing = x.closing; bound = x.bound }
