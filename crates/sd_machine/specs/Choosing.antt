-- On which processor a thread is put that is made runnable, and from which processor a thread is stolen, with the numbers that
-- were read for that (Hints.antt).
-- Source: Solaris Internals (cpu_choose, disp_getwork); hints, and the three ticks of warmth, are this project's own.
--
-- Why: what a thread used last may still be in the cache of the processor on which it ran, so it goes back there for a while; later
-- it goes where it has the best chance to run at once, to the processor that runs the least priority, best of all nothing. To
-- know that, other processors are read, and as in the kernel without their locks: a number that was read may be old when it
-- is used. So an entry records the numbers that it used, and is right with those, whatever the others do meanwhile.
--
-- For example, a thread last ran on processor 1, of a set with 0, 1, 2 and 3 open. Two ticks after it left it is put on 1, and
-- nothing is read. Ten ticks after, the running threads are read: with the numbers 31, 0, 61, 0 (a priority of 30, nobody, 60,
-- nobody) both 1 and 3 have the least, and it goes to 1, where it was; with 31, 25, 61, 0 it goes to 3. A bound thread goes where
-- it is bound.
use Rattle.std.specs.Prelude.{ℕ, ◌+◌, Bool, false, not, ◌&&◌, ◌||◌, List, [], ◌∷◌, length, filter, replicate, nat_le, ◌==◌, Option, Some, None, is_none, if◌then◌else◌}
use Rattle.sd_types.specs.declared.numbers.CpuId.{CpuId}
use Rattle.sd_types.specs.declared.events.Hints.{Hints}
use Rattle.sd_types.specs.declared.events.Put.{Put}
use Rattle.sd_types.specs.declared.events.Put.TheVariants.{Cpu, RealTime as OnRealTime}
use Rattle.sd_types.specs.declared.works.Work.{Work}
use Rattle.sd_rules.specs.Choices.{is_among}
use Rattle.sd_rules.specs.ChoiceFunctions.{chosen, victim_of}
use Rattle.sd_types.specs.Priorities.{real_time_priority}
use Rattle.sd_state.specs.declared.states.State.{State}
use Rattle.sd_state.specs.States.{thread_of, cpu_of, set_of}
use Rattle.sd_machine.specs.Threads.{open_of}

-- the numbers that were read of so many processors; where nothing was read they are 0 and not looked at
abbrev pub numbers_read : List CpuId → Option Hints → List ℕ
numbers_read cpus None = replicate (length cpus) 0
numbers_read cpus (Some h) = h.numbers.items

-- The choice for a thread that is made runnable by processor c.

-- the processors on which it may run: the open ones of its partition, or the one to which it is bound
abbrev pub cpus_or_bound : List CpuId → Option CpuId → List CpuId
cpus_or_bound cpus None = cpus
cpus_or_bound cpus (Some d) = d ∷ []

unfoldable pub cpus_for : Work → State → ℕ → List CpuId
cpus_for w s t = cpus_or_bound (open_of s (set_of w t).0) (thread_of s t).body.bound

-- it left its last processor a short time ago, as the acting processor counts: at most three ticks
abbrev pub is_recent : ℕ → Option ℕ → Bool
is_recent count None = false
is_recent count (Some left_at) = nat_le count (left_at + 3)

abbrev pub is_warm : State → ℕ → ℕ → Bool
is_warm s c t = is_recent (cpu_of s c).count (thread_of s t).body.left_at

-- the thread goes back to its last processor unread, or there is one processor only
abbrev pub is_settled : List CpuId → CpuId → Bool → Bool
is_settled cpus last warm = (length cpus == 1) || (warm && is_among last cpus)

-- the processor that is chosen: the last one while the thread is warm, else one with the least number; ties go to the
-- last processor, then to the least number
unfoldable pub choice : Work → State → ℕ → ℕ → Option Hints → CpuId
choice w s c t hints = chosen (cpus_for w s t) (numbers_read (cpus_for w s t) hints) (thread_of s t).body.last (is_warm s c t)

-- the queue of a thread of this priority: the real-time queue of its partition from 100 on, unless it is bound
abbrev pub put_on : ℕ → Option CpuId → CpuId → Put
put_on p bound x = if nat_le real_time_priority p && is_none bound then OnRealTime x else Cpu x

unfoldable pub put_chosen : Work → State → ℕ → ℕ → ℕ → Option Hints → Put
put_chosen w s c t p hints = put_on p (thread_of s t).body.bound (choice w s c t hints)

-- The search for a thread of another processor's queue.

-- the other open processors of a processor's partition
unfoldable pub neighbours : State → ℕ → List CpuId
neighbours s c = filter (λ d. not (d.0 == c)) (open_of s (cpu_of s c).set.0)

-- the processor from which a thread would be stolen: that with the greatest number, the least of several, none where
-- all are 0
unfoldable pub victim_for : State → ℕ → Option Hints → Option CpuId
victim_for s c hints = victim_of (neighbours s c) (numbers_read (neighbours s c) hints)
