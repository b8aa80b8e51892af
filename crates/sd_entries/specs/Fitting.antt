-- Which entries have a line of their own: those whose numbers name what the workload has, and which have read numbers only
-- where their event does.
-- Source: this project's own.
use Rattle.std.specs.Prelude.{ℕ, ◌^◌, Bool, true, false, ◌&&◌, length, nat_lt, nat_le, Option, Some, None, IsTrue}
use Rattle.std.specs.List.{list_all}
use Rattle.sd_types.specs.declared.events.Event.{Event}
use Rattle.sd_types.specs.declared.events.Event.TheVariants.{Idle, Steal, Napend, Wake, Rouse, Will, Unblock, Grant, Prio, SemaVWake, Move, Bind}
use Rattle.sd_types.specs.declared.numbers.CpuId.{CpuId}
use Rattle.sd_types.specs.declared.numbers.ThreadId.{ThreadId}
use Rattle.sd_types.specs.declared.numbers.LockId.{LockId}
use Rattle.sd_types.specs.declared.numbers.ChanId.{ChanId}
use Rattle.sd_types.specs.declared.numbers.SetId.{SetId}
use Rattle.sd_types.specs.declared.events.Put.{Put}
use Rattle.sd_types.specs.declared.events.Put.TheVariants.{Cpu, RealTime as OnRealTime}
use Rattle.sd_types.specs.declared.events.Hints.{Hints}
use Rattle.sd_types.specs.declared.events.Which.{Which}
use Rattle.sd_types.specs.declared.events.Which.TheVariants.{Running, Queued}
use Rattle.sd_types.specs.declared.events.PrioAnswer.{PrioAnswer}
use Rattle.sd_types.specs.declared.events.PrioAnswer.TheVariants as prio
use Rattle.sd_types.specs.declared.events.BindAnswer.{BindAnswer}
use Rattle.sd_types.specs.declared.events.BindAnswer.TheVariants as bind
use Rattle.sd_types.specs.declared.events.Entry.{Entry}
use Rattle.sd_types.specs.declared.works.Work.{Work}
use Rattle.sd_types.specs.Limits.{most_processors}
use Rattle.sd_machine.specs.Names.{Name, names, OfThread, OfLock, OfChan, OfCpu, OfCpuIf, OfSet, Priority, Count, At, AtIf, Whom, ByPrio, ByBind, Off}

-- Each number names something that the workload has.

abbrev pub has_cpu : Work → CpuId → Bool
has_cpu w c = nat_lt c.0 w.cpus

abbrev pub has_thread : Work → ThreadId → Bool
has_thread w t = nat_lt t.0 (length w.threads)

abbrev pub has_lock : Work → LockId → Bool
has_lock w l = nat_lt l.0 (length w.locks)

abbrev pub has_chan : Work → ChanId → Bool
has_chan w k = nat_lt k.0 (length w.chans)

abbrev pub has_set : Work → SetId → Bool
has_set w p = nat_le p.0 (length w.sets)

abbrev pub put_fits : Work → Put → Bool
put_fits w (Cpu x) = has_cpu w x
put_fits w (OnRealTime x) = has_cpu w x

abbrev pub put_fits_if : Work → Option Put → Bool
put_fits_if w None = true
put_fits_if w (Some at) = put_fits w at

abbrev pub woken_fits : Work → Option (ThreadId × Put) → Bool
woken_fits w None = true
woken_fits w (Some u) = has_thread w u.0 && put_fits w u.1

abbrev pub cpu_fits_if : Work → Option CpuId → Bool
cpu_fits_if w None = true
cpu_fits_if w (Some c) = has_cpu w c

abbrev pub prio_fits : Work → PrioAnswer → Bool
prio_fits w (prio.Changed p at) = put_fits_if w at
prio_fits w (prio.Refused d) = true

abbrev pub bind_fits : Work → BindAnswer → Bool
bind_fits w (bind.Changed at) = put_fits_if w at
bind_fits w _ = true

abbrev pub name_fits : Work → Name → Bool
name_fits w (OfThread t) = has_thread w t
name_fits w (OfLock l) = has_lock w l
name_fits w (OfChan k) = has_chan w k
name_fits w (OfCpu d) = has_cpu w d
name_fits w (OfCpuIf d) = cpu_fits_if w d
name_fits w (OfSet p) = has_set w p
name_fits w (At at) = put_fits w at
name_fits w (AtIf at) = put_fits_if w at
name_fits w (Whom u) = woken_fits w u
name_fits w (ByPrio answer) = prio_fits w answer
name_fits w (ByBind answer) = bind_fits w answer
name_fits w (Off d) = has_cpu w d
name_fits w _ = true

-- all that an event names is there
unfoldable pub event_fits : Work → Event → Bool
event_fits w e = list_all (name_fits w) (names e).1

-- What an event reads: numbers of running threads where it places a thread, numbers of queues where it looks for a victim.

abbrev pub reads_if : Option Put → Option Which
reads_if None = None
reads_if (Some at) = Some Running

abbrev pub woken_reads : Option (ThreadId × Put) → Option Which
woken_reads None = None
woken_reads (Some u) = Some Running

abbrev pub prio_reads : PrioAnswer → Option Which
prio_reads (prio.Changed p at) = reads_if at
prio_reads (prio.Refused d) = None

abbrev pub bind_reads : BindAnswer → Option Which
bind_reads (bind.Changed at) = reads_if at
bind_reads _ = None

abbrev pub may_read : Event → Option Which
may_read Idle = Some Queued
may_read (Steal v t p) = Some Queued
may_read (Napend t at) = Some Running
may_read (Wake t k u) = woken_reads u
may_read (Rouse k u) = woken_reads u
may_read (Will l o p at) = reads_if at
may_read (Unblock l u at) = Some Running
may_read (Grant l u at) = Some Running
may_read (Prio t u answer) = prio_reads answer
may_read (SemaVWake t k u at) = Some Running
may_read (Move t at) = Some Running
may_read (Bind t u d answer) = bind_reads answer
may_read _ = None

abbrev pub is_allowed_which : Which → Option Which → Bool
is_allowed_which Running (Some Running) = true
is_allowed_which Queued (Some Queued) = true
is_allowed_which _ _ = false

abbrev pub are_allowed_hints : Option Which → Option Hints → Bool
are_allowed_hints may None = true
are_allowed_hints may (Some h) = is_allowed_which h.which may && nat_lt 0 (length h.numbers.items)

unfoldable pub entry_fits : Work → Entry → Bool
entry_fits w e = has_cpu w e.cpu && event_fits w e.event && are_allowed_hints (may_read e.event) e.hints

-- Numbers have as many bits as their types.

-- a number of 8 bits
abbrev pub is_byte : ℕ → Bool
is_byte n = nat_lt n 256

abbrev pub prio_in_range : PrioAnswer → Bool
prio_in_range (prio.Changed p at) = is_byte p
prio_in_range (prio.Refused d) = true

abbrev pub name_in_range : Name → Bool
name_in_range (Priority p) = is_byte p
name_in_range (Count n) = nat_lt n (2 ^ 32)
name_in_range (ByPrio answer) = prio_in_range answer
name_in_range _ = true

abbrev pub event_in_range : Event → Bool
event_in_range e = list_all name_in_range (names e).1

abbrev pub hints_in_range : Option Hints → Bool
hints_in_range None = true
hints_in_range (Some h) = nat_le (length h.numbers.items) most_processors && list_all is_byte h.numbers.items

unfoldable pub in_range : Entry → Bool
in_range e = nat_lt e.number (2 ^ 64) && event_in_range e.event && hints_in_range e.hints

-- an entry that has a line of its own
pub record IsSpelled (w : Work) (e : Entry) : Type 0 where
  pub fits : IsTrue (entry_fits w e)
  pub range : IsTrue (in_range e)
