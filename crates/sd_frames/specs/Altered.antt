-- Which thread an event may alter: its place, its class state or the priorities that it inherits.
-- Source: this project's own.
use Rattle.std.specs.Prelude.{ℕ, Option, Some, None}
use Rattle.sd_types.specs.declared.numbers.ThreadId.{ThreadId}
use Rattle.sd_types.specs.declared.events.Event.{Event}
use Rattle.sd_types.specs.declared.events.Put.{Put}
use Rattle.sd_machine.specs.Deeds.{Deed, RunsTick, CountsClass, ComesHere, GoesTo, GoesBack, GoesAway, WakesUp, WakesIf, PutsThread, EndsOp, HoldsLock, LetsGo, GrantsLock, WalksOn, Rouses, Lifts, Reclasses, BindsThread, deeds, first}

-- the thread that is put
abbrev pub thread_in : Option (ThreadId × Put) → Option ℕ
thread_in None = None
thread_in (Some u) = Some u.0.0

-- the thread that a deed writes
abbrev pub written_by : Deed → Option ℕ
written_by (RunsTick t) = Some t
written_by (CountsClass t) = Some t
written_by (ComesHere t) = Some t
written_by (GoesTo t whither) = Some t
written_by (GoesBack t end) = Some t
written_by (GoesAway t d) = Some t
written_by (WakesUp t at) = Some t
written_by (WakesIf u) = thread_in u
written_by (PutsThread t at) = Some t
written_by (EndsOp t) = Some t
written_by (HoldsLock t l) = Some t
written_by (LetsGo t l) = Some t
written_by (GrantsLock l u at) = Some u
written_by (WalksOn l o at) = Some o.0
written_by (Rouses k u) = thread_in u
written_by (Lifts t) = Some t
written_by (Reclasses t u answer) = Some u.0
written_by (BindsThread u d answer) = Some u
written_by _ = None

-- The one that it alters: a tick of an operation, its end and a lock that is taken leave place, class state and inherited
-- priorities as they are.
abbrev pub alters : Deed → Option ℕ
alters (RunsTick t) = None
alters (EndsOp t) = None
alters (HoldsLock t l) = None
alters d = written_by d

-- the one thread that an event may alter
abbrev pub altered : Event → Option ℕ
altered e = first alters (deeds e)
