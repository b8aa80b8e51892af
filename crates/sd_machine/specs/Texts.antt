-- The texts of the journal.
-- Source: this project's own.
use Rattle.std.specs.Prelude.{ℕ, zero, suc, List, [], ◌∷◌, ◌++◌, length, flat_map, count_by, codes, decimal, Option, Some, None, option_map, unwrap_or, slice_get}
use Rattle.sd_types.specs.declared.events.Event.{Event}
use Rattle.sd_types.specs.declared.numbers.CpuId.{CpuId}
use Rattle.sd_types.specs.declared.numbers.ThreadId.{ThreadId}
use Rattle.sd_types.specs.declared.numbers.LockId.{LockId}
use Rattle.sd_types.specs.declared.numbers.ChanId.{ChanId}
use Rattle.sd_types.specs.declared.events.Put.{Put}
use Rattle.sd_types.specs.declared.events.Put.TheVariants.{Cpu, RealTime as OnRealTime}
use Rattle.sd_types.specs.declared.events.Hints.{Hints}
use Rattle.sd_types.specs.declared.events.Denied.{Denied}
use Rattle.sd_types.specs.declared.events.Denied.TheVariants as denied
use Rattle.sd_types.specs.declared.events.PrioAnswer.{PrioAnswer}
use Rattle.sd_types.specs.declared.events.PrioAnswer.TheVariants as prio
use Rattle.sd_types.specs.declared.events.AssignAnswer.{AssignAnswer}
use Rattle.sd_types.specs.declared.events.AssignAnswer.TheVariants as assign
use Rattle.sd_types.specs.declared.events.BindAnswer.{BindAnswer}
use Rattle.sd_types.specs.declared.events.BindAnswer.TheVariants as bind
use Rattle.sd_types.specs.declared.events.Entry.{Entry}
use Rattle.sd_types.specs.declared.works.Work.{Work}
use Rattle.sd_state.specs.declared.states.Place.{Place}
use Rattle.sd_state.specs.declared.states.Place.TheVariants.{Waiting}
use Rattle.sd_state.specs.declared.states.State.{State}
use Rattle.sd_state.specs.States.{thread_of}
use Rattle.sd_machine.specs.Names.{Name, names, OfThread, OfLock, OfChan, OfCpu, OfCpuIf, OfSet, Priority, Count, AtEnd, At, AtIf, Whom, ByPrio, ByAssign, ByBind, Off}
use Rattle.sd_machine.specs.Runs.{final}
use Rattle.sd_state.specs.Opening.{opening}
use Rattle.sd_machine.specs.Threads.{has_ended}
use Rattle.sd_machine.specs.LockGraph.{cycles_of}
use Rattle.sd_types.specs.Events.{ticks}
use Rattle.sd_state.specs.Texts.{thread_name, lock_name, chan_name, end_text, accounts_text}
use Rattle.sd_state.specs.Accounts.{is_idle}
use Rattle.sd_machine.specs.Accounts.{entries_of, is_dispatch, is_steal, is_preempt, is_wake, is_block, is_will}

-- the name of a set; the default partition has none
abbrev pub set_name : Work → ℕ → List ℕ
set_name w zero = codes "-"
set_name w (suc p) = unwrap_or (option_map (λ d. d.0.text.items) (slice_get w.sets p)) []

abbrev pub cpu_text : CpuId → List ℕ
cpu_text c = codes "c" ++ decimal c.0

-- where a thread was put, with a blank before it; nothing where it was put nowhere
abbrev pub put_text : Put → List ℕ
put_text (Cpu x) = codes " to " ++ cpu_text x
put_text (OnRealTime x) = codes " rt " ++ cpu_text x

abbrev pub put_text_if : Option Put → List ℕ
put_text_if None = []
put_text_if (Some at) = put_text at

abbrev pub woken_text : Work → Option (ThreadId × Put) → List ℕ
woken_text w None = codes "none"
woken_text w (Some u) = thread_name w u.0.0 ++ put_text u.1

abbrev pub denied_text : Denied → List ℕ
denied_text denied.ESRCH = codes "ESRCH"
denied_text denied.EINVAL = codes "EINVAL"
denied_text denied.EPERM = codes "EPERM"

abbrev pub prio_text : PrioAnswer → List ℕ
prio_text (prio.Changed p at) = codes "ok " ++ decimal p ++ put_text_if at
prio_text (prio.Refused d) = denied_text d

abbrev pub assign_text : AssignAnswer → List ℕ
assign_text assign.Changed = codes "ok"
assign_text assign.EPERM = codes "EPERM"
assign_text assign.EINVAL = codes "EINVAL"
assign_text assign.EBUSY = codes "EBUSY"

abbrev pub bind_text : BindAnswer → List ℕ
bind_text (bind.Changed at) = codes "ok" ++ put_text_if at
bind_text bind.ESRCH = codes "ESRCH"
bind_text bind.EINVAL = codes "EINVAL"
bind_text bind.EPERM = codes "EPERM"
bind_text bind.EBUSY = codes "EBUSY"

abbrev pub cpu_text_if : Option CpuId → List ℕ
cpu_text_if None = codes "-"
cpu_text_if (Some c) = cpu_text c

-- a word and a name
abbrev pub word_thread : Work → List ℕ → ThreadId → List ℕ
word_thread w word t = word ++ codes " " ++ thread_name w t.0

abbrev pub word_lock : Work → List ℕ → LockId → List ℕ
word_lock w word l = word ++ codes " " ++ lock_name w l.0

abbrev pub word_chan : Work → List ℕ → ChanId → List ℕ
word_chan w word k = word ++ codes " " ++ chan_name w k.0

-- a text with a name behind it
abbrev pub with_name : Work → List ℕ → Name → List ℕ
with_name w text (OfThread t) = text ++ codes " " ++ thread_name w t.0
with_name w text (OfLock l) = text ++ codes " " ++ lock_name w l.0
with_name w text (OfChan k) = text ++ codes " " ++ chan_name w k.0
with_name w text (OfCpu d) = text ++ codes " " ++ cpu_text d
with_name w text (OfCpuIf d) = text ++ codes " " ++ cpu_text_if d
with_name w text (OfSet p) = text ++ codes " " ++ set_name w p.0
with_name w text (Priority p) = text ++ codes " " ++ decimal p
with_name w text (Count n) = text ++ codes " " ++ decimal n
with_name w text (AtEnd end) = text ++ end_text end
with_name w text (At at) = text ++ put_text at
with_name w text (AtIf at) = text ++ put_text_if at
with_name w text (Whom u) = text ++ codes " " ++ woken_text w u
with_name w text (ByPrio answer) = text ++ codes " " ++ prio_text answer
with_name w text (ByAssign answer) = text ++ codes " " ++ assign_text answer
with_name w text (ByBind answer) = text ++ codes " " ++ bind_text answer
with_name w text (Off d) = text ++ codes " away " ++ cpu_text d

abbrev pub text_with : Work → List ℕ → List Name → List ℕ
text_with w text [] = text
text_with w text (x ∷ xs) = text_with w (with_name w text x) xs

-- its word, and behind it what it names, in order
abbrev pub event_text : Work → Event → List ℕ
event_text w e = text_with w (names e).0 (names e).1

-- the numbers that were read, joined by commas
abbrev pub numbers_text : List ℕ → List ℕ
numbers_text [] = []
numbers_text (n ∷ []) = decimal n
numbers_text (n ∷ m ∷ ms) = decimal n ++ codes "," ++ numbers_text (m ∷ ms)

abbrev pub hints_text : Option Hints → List ℕ
hints_text None = []
hints_text (Some h) = codes " h " ++ numbers_text h.numbers.items

-- the line of an entry, with its newline
unfoldable pub entry_text : Work → Entry → List ℕ
entry_text w e = decimal e.number ++ codes " c" ++ decimal e.cpu.0 ++ codes " " ++ event_text w e.event ++ hints_text e.hints ++ codes "\n"

unfoldable pub entries_text : Work → List Entry → List ℕ
entries_text w es = flat_map (entry_text w) es

-- each thread of a cycle with the lock on which it waits
abbrev pub waited_name : Work → Place → List ℕ
waited_name w (Waiting l side k) = lock_name w l.0
waited_name w _ = []

abbrev pub cycle_word : Work → State → ℕ → List ℕ
cycle_word w s t = codes " " ++ thread_name w t ++ codes " " ++ waited_name w (thread_of s t).place

unfoldable pub cycle_line : Work → State → List ℕ → List ℕ
cycle_line w s ts = codes "cycle" ++ flat_map (cycle_word w s) ts ++ codes "\n"

unfoldable pub cycles_text : Work → State → List ℕ
cycles_text w s = flat_map (cycle_line w s) (cycles_of s)

-- what a run writes: its entries in order, then its accounts, then the blocking cycles of its final state
abbrev pub journal_of : Work → List Entry → State → List ℕ
journal_of w es s = entries_text w es ++ (accounts_text w es s ++ cycles_text w s)

unfoldable pub journal : Work → List Entry → List ℕ
journal w es = journal_of w es (final w (opening w) es)

-- the summary of a run
abbrev pub count_line : List ℕ → ℕ → List ℕ
count_line word n = word ++ codes " " ++ decimal n ++ codes "\n"

unfoldable pub summary_of : List Entry → State → List ℕ
summary_of es s =
    count_line (codes "entries") (length es) ++ (count_line (codes "ticks") (entries_of ticks es)
    ++ (count_line (codes "idle") (entries_of is_idle es) ++ (count_line (codes "dispatches") (entries_of is_dispatch es)
    ++ (count_line (codes "steals") (entries_of is_steal es) ++ (count_line (codes "preempts") (entries_of is_preempt es)
    ++ (count_line (codes "wakes") (entries_of is_wake es) ++ (count_line (codes "blocks") (entries_of is_block es)
    ++ (count_line (codes "wills") (entries_of is_will es) ++ count_line (codes "ended") (count_by (λ x. has_ended x.place) s.threads)))))))))

unfoldable pub summary : Work → List Entry → List ℕ
summary w es = summary_of es (final w (opening w) es)
