-- Hints: which numbers processors show, and which of them a processor reads before its event.
-- Source: Solaris Internals (cpu_choose, disp_getwork); hints are this project's own.
use Rattle.std.specs.Prelude.{ℕ, ◌+◌, Bool, true, false, ◌&&◌, List, [], ◌∷◌, length, ◌==◌, Option, Some, None, if◌then◌else◌}
use Rattle.sd_types.specs.declared.numbers.CpuId.{CpuId}
use Rattle.sd_types.specs.declared.events.Hints.{Hints}
use Rattle.sd_types.specs.declared.events.Which.{Which}
use Rattle.sd_types.specs.declared.events.Which.TheVariants as which
use Rattle.sd_types.specs.declared.works.Work.{Work}
use Rattle.sd_machine.specs.declared.plans.Plan.{Plan}
use Rattle.sd_machine.specs.declared.plans.Plan.TheVariants.{Make, Place, Search}
use Rattle.sd_machine.specs.declared.plans.Placement.{Placement}
use Rattle.sd_machine.specs.declared.plans.Placement.TheVariants as placement
use Rattle.sd_state.specs.declared.states.State.{State}
use Rattle.sd_state.specs.States.{thread_of}
use Rattle.sd_machine.specs.Choosing.{cpus_for, is_settled, is_warm, neighbours}
use Rattle.sd_machine.specs.Plans.{plan}
use Rattle.sd_machine.specs.Threads.{runner, best_unbound, priority_of}

-- What a processor shows: two numbers, each an effective priority plus 1, or 0 for none, that of its running thread and
-- that of the best on its queue that is bound to no processor.

abbrev pub hint_of : Option ℕ → ℕ
hint_of None = 0
hint_of (Some p) = p + 1

unfoldable pub hint_shown : State → Which → CpuId → ℕ
hint_shown s which.Running d = hint_of (priority_of s (runner s d.0))
hint_shown s which.Queued d = hint_of (priority_of s (best_unbound s d.0))

-- What a processor reads for a thread that it makes runnable.

-- of which processors the running threads are read
abbrev pub read_for : List CpuId → CpuId → Bool → Option (Which × List CpuId)
read_for cpus last warm = if is_settled cpus last warm then None else Some (which.Running, cpus)

unfoldable pub reads_for : Work → State → ℕ → ℕ → Option (Which × List CpuId)
reads_for w s c t = read_for (cpus_for w s t) (thread_of s t).body.last (is_warm s c t)

-- What it reads for a search: what is queued on the others.

abbrev pub read_of : List CpuId → Option (Which × List CpuId)
read_of [] = None
read_of (d ∷ ds) = Some (which.Queued, d ∷ ds)

-- the thread that is placed
abbrev pub placed_thread : Placement → ℕ
placed_thread (placement.Napend t) = t.0
placed_thread (placement.Wake t k u) = u.0
placed_thread (placement.Rouse k u) = u.0
placed_thread (placement.Will l o p) = o.0
placed_thread (placement.Unblock l u) = u.0
placed_thread (placement.Grant l u) = u.0
placed_thread (placement.Prio t u p) = u.0
placed_thread (placement.SemaVWake t k u) = u.0
placed_thread (placement.Move t) = t.0

-- What a processor reads before its event: which numbers, and of which processors, in rising order.

abbrev pub plan_reads : Work → State → ℕ → Plan → Option (Which × List CpuId)
plan_reads w s c (Make event) = None
plan_reads w s c (Place placement p) = reads_for w s c (placed_thread placement)
plan_reads w s c Search = read_of (neighbours s c)

unfoldable pub reads : Work → State → ℕ → Option (Which × List CpuId)
reads w s c = plan_reads w s c (plan w s c)

abbrev pub same_which : Which → Which → Bool
same_which which.Running which.Running = true
same_which which.Queued which.Queued = true
same_which _ _ = false

-- hints are there exactly where something is read, of that kind and of so many processors
abbrev pub hints_fit : Option (Which × List CpuId) → Option Hints → Bool
hints_fit None None = true
hints_fit None (Some h) = false
hints_fit (Some r) None = false
hints_fit (Some r) (Some h) = same_which r.0 h.which && (length h.numbers.items == length r.1)
