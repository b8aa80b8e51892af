-- What is seen of a thread after an event by which it comes to wait for a lock, or waits no longer, told from the state before.
-- Source: Solaris Internals (turnstiles: a thread that blocks keeps its priority; one that wakes may get a new one from its table).
use Rattle.std.specs.Prelude.{◌≡◌, ◌<◌, length}
use Rattle.sd_types.specs.declared.bodies.ThreadBody.{ThreadBody}
use Rattle.sd_types.specs.declared.events.Event.{Event}
use Rattle.sd_types.specs.declared.events.Event.TheVariants.{Block, Unblock}
use Rattle.sd_types.specs.declared.works.Work.{Work}
use Rattle.sd_state.specs.declared.states.State.{State}
use Rattle.sd_state.specs.States.{thread_of}
use Rattle.sd_machine.specs.Bodies.{with_class, woken_class}
use Rattle.sd_stretches.specs.declared.sights.Doing.TheVariants.{Runnable, Waiting}
use Rattle.sd_stretches.specs.declared.sights.Sight.{Sight}
use Rattle.sd_stretches.specs.Sights.{sight_by}

-- a thread with this body once it is awake
abbrev pub woken_sight : Work → ThreadBody → Sight
woken_sight w b = sight_by (with_class b (woken_class w b.class)) Runnable

-- after the event the thread that it names is seen so
abbrev pub Foresees : Work → State → Event → Sight → Type 0
Foresees w s (Block t l) x = (t.0 < length s.threads) × (x ≡ sight_by (thread_of s t.0).body (Waiting l))
Foresees w s (Unblock l u at) x = (u.0 < length s.threads) × (x ≡ woken_sight w (thread_of s u.0).body)
Foresees w s e x = ⊥
