-- An entry from the words of its line. Words that are of no entry give some entry all the same: whether a line is that
-- entry's is told by comparing the texts.
-- Source: this project's own.
use Rattle.std.specs.Prelude.{ℕ, ◌+◌, ◌^◌, Bool, ◌&&◌, ◌==◌, List, [], length, map, take, drop, min, nat_lt, nat_le, codes, Option, Some, None, slice_index_or, if◌then◌else◌}
use Rattle.std.specs.List.{position_or_len, slice_split}
use Rattle.std.specs.Str.{all_ascii_digits}
use Rattle.std.specs.Str.Parse.{digits_value}
use Rattle.sd_types.specs.Works.{same_bytes}
use Rattle.sd_types.specs.declared.events.Event.{Event}
use Rattle.sd_types.specs.declared.events.Event.TheVariants.{Tick, Spin, Idle, Dispatch, Steal, Preempt, Yield, Done, Nap, Napend, Sleep, Wake, Wakeall, Rouse, Enter, Read, Write, Block, Will, End as WalkEnd, Exit, Unblock, Grant, Passed, Age, Prio, CvWait, SemaP, SemaWait, SemaVWake, SemaVCount, Assign, Move, Joined, Bind, Away}
use Rattle.sd_types.specs.declared.events.End.{End}
use Rattle.sd_types.specs.declared.events.End.TheVariants.{Front, Back}
use Rattle.sd_types.specs.declared.numbers.CpuId.{CpuId}
use Rattle.sd_types.specs.declared.numbers.ThreadId.{ThreadId}
use Rattle.sd_types.specs.declared.numbers.LockId.{LockId}
use Rattle.sd_types.specs.declared.numbers.ChanId.{ChanId}
use Rattle.sd_types.specs.declared.numbers.SetId.{SetId}
use Rattle.sd_types.specs.declared.events.Put.{Put}
use Rattle.sd_types.specs.declared.events.Put.TheVariants.{Cpu, RealTime as OnRealTime}
use Rattle.sd_types.specs.declared.events.Hints.{Hints}
use Rattle.sd_types.specs.declared.events.Which.{Which}
use Rattle.sd_types.specs.declared.events.Denied.{Denied}
use Rattle.sd_types.specs.declared.events.Denied.TheVariants as denied
use Rattle.sd_types.specs.declared.events.PrioAnswer.{PrioAnswer}
use Rattle.sd_types.specs.declared.events.PrioAnswer.TheVariants as prio
use Rattle.sd_types.specs.declared.events.AssignAnswer.{AssignAnswer}
use Rattle.sd_types.specs.declared.events.AssignAnswer.TheVariants as assign
use Rattle.sd_types.specs.declared.events.BindAnswer.{BindAnswer}
use Rattle.sd_types.specs.declared.events.BindAnswer.TheVariants as bind
use Rattle.sd_types.specs.declared.events.Entry.{Entry}
use Rattle.sd_types.specs.declared.works.Work.{Work}
use Rattle.sd_types.specs.Limits.{most_processors}
use Rattle.sd_entries.specs.Fitting.{may_read}

-- a word of a line, by its place from 0
abbrev pub at : List (List ℕ) → ℕ → List ℕ
at ws i = slice_index_or ws i []

-- the number that at most 20 digits spell
unfoldable pub digits_of : List ℕ → Option ℕ
digits_of word = if nat_le (length word) 20 && all_ascii_digits word then Some (digits_value 10 word) else None

-- a number of 64 bits, else 0
abbrev pub small_or_zero : Option ℕ → ℕ
small_or_zero None = 0
small_or_zero (Some n) = if nat_lt n (2 ^ 64) then n else 0

unfoldable pub number_in : List ℕ → ℕ
number_in word = small_or_zero (digits_of word)

-- The number of the thing of that name; where there is none, how many things there are.

unfoldable pub thread_in : Work → List ℕ → ThreadId
thread_in w word = record { 0 = position_or_len (λ d. same_bytes d.name.text.items word) w.threads }

unfoldable pub lock_in : Work → List ℕ → LockId
lock_in w word = record { 0 = position_or_len (λ d. same_bytes d.0.text.items word) w.locks }

unfoldable pub chan_in : Work → List ℕ → ChanId
chan_in w word = record { 0 = position_or_len (λ d. same_bytes d.0.text.items word) w.chans }

-- the default partition is `-`
unfoldable pub set_in : Work → List ℕ → SetId
set_in w word = record { 0 = if same_bytes word (codes "-") then 0 else position_or_len (λ d. same_bytes d.0.text.items word) w.sets + 1 }

-- behind the letter c
unfoldable pub cpu_in : List ℕ → CpuId
cpu_in word = record { 0 = min (number_in (drop 1 word)) 65535 }

unfoldable pub cpu_in_if : List ℕ → Option CpuId
cpu_in_if word = if same_bytes word (codes "-") then None else Some (cpu_in word)

unfoldable pub byte_in : List ℕ → ℕ
byte_in word = min (number_in word) 255

unfoldable pub count_in : List ℕ → ℕ
count_in word = min (number_in word) 4294967295

unfoldable pub end_in : List ℕ → End
end_in word = if same_bytes word (codes "back") then Back else Front

-- where a thread was put, from two words
unfoldable pub put_in : List ℕ → List ℕ → Put
put_in word cpu = if same_bytes word (codes "rt") then OnRealTime (cpu_in cpu) else Cpu (cpu_in cpu)

unfoldable pub put_in_if : List ℕ → List ℕ → Option Put
put_in_if word cpu = if same_bytes word (codes "to") then Some (put_in word cpu) else if same_bytes word (codes "rt") then Some (put_in word cpu) else None

abbrev pub woken_by : ThreadId → Option Put → Option (ThreadId × Put)
woken_by s None = None
woken_by s (Some place) = Some (s, place)

unfoldable pub denied_in : List ℕ → Denied
denied_in word = if same_bytes word (codes "ESRCH") then denied.ESRCH else if same_bytes word (codes "EINVAL") then denied.EINVAL else denied.EPERM

-- from the word of the answer, the priority and the place
unfoldable pub prio_in : List ℕ → List ℕ → Option Put → PrioAnswer
prio_in word p place = if same_bytes word (codes "ok") then prio.Changed (byte_in p) place else prio.Refused (denied_in word)

unfoldable pub assign_in : List ℕ → AssignAnswer
assign_in word =
    if same_bytes word (codes "ok") then assign.Changed else if same_bytes word (codes "EPERM") then assign.EPERM
    else if same_bytes word (codes "EINVAL") then assign.EINVAL else assign.EBUSY

unfoldable pub bind_in : List ℕ → Option Put → BindAnswer
bind_in word place =
    if same_bytes word (codes "ok") then bind.Changed place else if same_bytes word (codes "ESRCH") then bind.ESRCH
    else if same_bytes word (codes "EINVAL") then bind.EINVAL else if same_bytes word (codes "EPERM") then bind.EPERM else bind.EBUSY

-- Events by their first word, in families. The words of the line are ws, the first one of the event is k.

unfoldable pub running_event : Work → List ℕ → List (List ℕ) → Option Event
running_event w k ws =
    if same_bytes k (codes "tick") then Some (Tick (thread_in w (at ws 3)))
    else if same_bytes k (codes "spin") then Some (Spin (thread_in w (at ws 3)) (lock_in w (at ws 4)))
    else if same_bytes k (codes "dispatch") then Some (Dispatch (thread_in w (at ws 3)) (byte_in (at ws 4)))
    else if same_bytes k (codes "steal") then Some (Steal (cpu_in (at ws 3)) (thread_in w (at ws 4)) (byte_in (at ws 5)))
    else if same_bytes k (codes "yield") then Some (Yield (thread_in w (at ws 3)))
    else if same_bytes k (codes "done") then Some (Done (thread_in w (at ws 3)))
    else if same_bytes k (codes "age") then Some (Age (thread_in w (at ws 3)) (byte_in (at ws 4)))
    else None

unfoldable pub preempting : Work → List (List ℕ) → Event
preempting w ws = if same_bytes (at ws 4) (codes "away") then Away (thread_in w (at ws 3)) (cpu_in (at ws 5)) else Preempt (thread_in w (at ws 3)) (end_in (at ws 4))

unfoldable pub placing_event : Work → List ℕ → List (List ℕ) → Option Event
placing_event w k ws =
    if same_bytes k (codes "preempt") then Some (preempting w ws)
    else if same_bytes k (codes "nap") then Some (Nap (thread_in w (at ws 3)))
    else if same_bytes k (codes "napend") then Some (Napend (thread_in w (at ws 3)) (put_in (at ws 4) (at ws 5)))
    else if same_bytes k (codes "move") then Some (Move (thread_in w (at ws 3)) (put_in (at ws 4) (at ws 5)))
    else None

unfoldable pub sleeping_event : Work → List ℕ → List (List ℕ) → Option Event
sleeping_event w k ws =
    if same_bytes k (codes "sleep") then Some (Sleep (thread_in w (at ws 3)) (chan_in w (at ws 4)))
    else if same_bytes k (codes "wake") then Some (Wake (thread_in w (at ws 3)) (chan_in w (at ws 4)) (woken_by (thread_in w (at ws 5)) (put_in_if (at ws 6) (at ws 7))))
    else if same_bytes k (codes "wakeall") then Some (Wakeall (thread_in w (at ws 3)) (chan_in w (at ws 4)))
    else if same_bytes k (codes "rouse") then Some (Rouse (chan_in w (at ws 3)) (woken_by (thread_in w (at ws 4)) (put_in_if (at ws 5) (at ws 6))))
    else None

unfoldable pub locking_event : Work → List ℕ → List (List ℕ) → Option Event
locking_event w k ws =
    if same_bytes k (codes "enter") then Some (Enter (thread_in w (at ws 3)) (lock_in w (at ws 4)))
    else if same_bytes k (codes "read") then Some (Read (thread_in w (at ws 3)) (lock_in w (at ws 4)))
    else if same_bytes k (codes "write") then Some (Write (thread_in w (at ws 3)) (lock_in w (at ws 4)))
    else if same_bytes k (codes "block") then Some (Block (thread_in w (at ws 3)) (lock_in w (at ws 4)))
    else if same_bytes k (codes "exit") then Some (Exit (thread_in w (at ws 3)) (lock_in w (at ws 4)))
    else None

unfoldable pub handing_event : Work → List ℕ → List (List ℕ) → Option Event
handing_event w k ws =
    if same_bytes k (codes "will") then Some (Will (lock_in w (at ws 3)) (thread_in w (at ws 4)) (byte_in (at ws 5)) (put_in_if (at ws 6) (at ws 7)))
    else if same_bytes k (codes "end") then Some (WalkEnd (lock_in w (at ws 3)))
    else if same_bytes k (codes "unblock") then Some (Unblock (lock_in w (at ws 3)) (thread_in w (at ws 4)) (put_in (at ws 5) (at ws 6)))
    else if same_bytes k (codes "grant") then Some (Grant (lock_in w (at ws 3)) (thread_in w (at ws 4)) (put_in (at ws 5) (at ws 6)))
    else if same_bytes k (codes "passed") then Some (Passed (lock_in w (at ws 3)))
    else None

abbrev pub counted_or_woken : ThreadId → ChanId → ThreadId → ℕ → Option Put → Event
counted_or_woken t k u n None = SemaVCount t k n
counted_or_woken t k u n (Some place) = SemaVWake t k u place

unfoldable pub semaphore_event : Work → List ℕ → List (List ℕ) → Option Event
semaphore_event w k ws =
    if same_bytes k (codes "cvwait") then Some (CvWait (thread_in w (at ws 3)) (chan_in w (at ws 4)) (lock_in w (at ws 5)))
    else if same_bytes k (codes "semap") then Some (SemaP (thread_in w (at ws 3)) (chan_in w (at ws 4)))
    else if same_bytes k (codes "semawait") then Some (SemaWait (thread_in w (at ws 3)) (chan_in w (at ws 4)))
    else if same_bytes k (codes "semav") then Some (counted_or_woken (thread_in w (at ws 3)) (chan_in w (at ws 4)) (thread_in w (at ws 5)) (count_in (at ws 5)) (put_in_if (at ws 6) (at ws 7)))
    else None

unfoldable pub answering_event : Work → List ℕ → List (List ℕ) → Option Event
answering_event w k ws =
    if same_bytes k (codes "prio") then Some (Prio (thread_in w (at ws 3)) (thread_in w (at ws 4)) (prio_in (at ws 5) (at ws 6) (put_in_if (at ws 7) (at ws 8))))
    else if same_bytes k (codes "assign") then Some (Assign (thread_in w (at ws 3)) (cpu_in (at ws 4)) (set_in w (at ws 5)) (assign_in (at ws 6)))
    else if same_bytes k (codes "joined") then Some (Joined (set_in w (at ws 3)))
    else if same_bytes k (codes "pbind") then Some (Bind (thread_in w (at ws 3)) (thread_in w (at ws 4)) (cpu_in_if (at ws 5)) (bind_in (at ws 6) (put_in_if (at ws 7) (at ws 8))))
    else None

abbrev pub or_else : Option Event → Event → Event
or_else None other = other
or_else (Some e) other = e

unfoldable pub event_of : Work → List (List ℕ) → Event
event_of w ws =
    let k = at ws 2 in
    or_else (running_event w k ws) (or_else (placing_event w k ws) (or_else (sleeping_event w k ws) (or_else (locking_event w k ws)
    (or_else (handing_event w k ws) (or_else (semaphore_event w k ws) (or_else (answering_event w k ws) Idle))))))

-- How many words an event has.

abbrev pub put_len : Option Put → ℕ
put_len None = 0
put_len (Some place) = 2

abbrev pub woken_len : Option (ThreadId × Put) → ℕ
woken_len None = 1
woken_len (Some u) = 3

abbrev pub prio_len : PrioAnswer → ℕ
prio_len (prio.Changed p place) = 2 + put_len place
prio_len (prio.Refused d) = 1

abbrev pub bind_len : BindAnswer → ℕ
bind_len (bind.Changed place) = 1 + put_len place
bind_len _ = 1

-- of those that may read numbers
abbrev pub event_len : Event → ℕ
event_len Idle = 1
event_len (Steal v t p) = 4
event_len (Napend t place) = 4
event_len (Wake t k u) = 3 + woken_len u
event_len (Rouse k u) = 2 + woken_len u
event_len (Will l o p place) = 4 + put_len place
event_len (Unblock l u place) = 5
event_len (Grant l u place) = 5
event_len (Prio t u answer) = 3 + prio_len answer
event_len (SemaVWake t k u place) = 6
event_len (Move t place) = 4
event_len (Bind t u d answer) = 4 + bind_len answer
event_len _ = 1

abbrev pub is_comma : ℕ → Bool
is_comma b = b == 44

-- numbers joined by commas, of 8 bits and at most as many as there may be processors
unfoldable pub numbers_in : List ℕ → List ℕ
numbers_in word = take most_processors (map byte_in (slice_split is_comma word))

abbrev pub hints_by : Option Which → List ℕ → List ℕ → Option Hints
hints_by None h numbers = None
hints_by (Some which) h numbers = if same_bytes h (codes "h") then Some (record { which = which; numbers = record { items = numbers_in numbers } }) else None

unfoldable pub entry_of : Work → List (List ℕ) → Entry
entry_of w ws =
    let e = event_of w ws in
    let i = 2 + event_len e in
    record {
      number = number_in (at ws 0);
      cpu = cpu_in (at ws 1);
      event = e;
      hints = hints_by (may_read e) (at ws i) (at ws (i + 1));
    }
