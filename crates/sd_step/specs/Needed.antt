-- The parts of a state that a processor looks at to find its event.
-- Source: this project's own; the cases are those of `sd_machine`'s Plans.
use Rattle.std.specs.Prelude.{ℕ, List, [], ◌∷◌, ◌++◌, Option, Some, None}
use Rattle.sd_types.specs.declared.numbers.CpuId.{CpuId}
use Rattle.sd_types.specs.declared.events.Hints.{Hints}
use Rattle.sd_types.specs.declared.scripts.Op.{Op}
use Rattle.sd_types.specs.declared.scripts.Op.TheVariants as op
use Rattle.sd_types.specs.declared.works.Work.{Work}
use Rattle.sd_state.specs.declared.states.State.{State}
use Rattle.sd_state.specs.States.{thread_of, cpu_of, set_of}
use Rattle.sd_state.specs.Operations.{op_of}
use Rattle.sd_machine.specs.declared.plans.Plan.{Plan}
use Rattle.sd_machine.specs.declared.plans.Plan.TheVariants.{Make, Place, Search}
use Rattle.sd_machine.specs.Choosing.{victim_for}
use Rattle.sd_machine.specs.Hints.{placed_thread}
use Rattle.sd_machine.specs.Plans.{ageing_plan, duty_plan, first_of, nap_plan, plan}
use Rattle.sd_machine.specs.Threads.{lock_of, runner, thread_id}
use Rattle.sd_dispatcher.specs.Touched.{victim_parts}
use Rattle.sd_step.specs.Tasks.{task_parts}
use Rattle.sd_store.specs.declared.parts.Part.{Part}
use Rattle.sd_store.specs.Keyless.{task_of}
use Rattle.sd_store.specs.Parts.{actor_part, bound_parts, chain_part, cpu_part, owner_parts, ready_parts, real_time_part, sleepers_part, thread_part}

-- of an operation
abbrev pub op_parts : State → Option Op → List Part
op_parts s (Some (op.Wake k)) = sleepers_part k ∷ []
op_parts s (Some (op.Enter l)) = chain_part l ∷ owner_parts (lock_of s l.0)
op_parts s (Some (op.Read l)) = chain_part l ∷ []
op_parts s (Some (op.Write l)) = chain_part l ∷ []
op_parts s (Some (op.Prio u r)) = thread_part u ∷ []
op_parts s (Some (op.SemaP k)) = sleepers_part k ∷ []
op_parts s (Some (op.SemaV k)) = sleepers_part k ∷ []
op_parts s (Some (op.Assign d to)) = ready_parts s d
op_parts s (Some (op.Pbind u d)) = thread_part u ∷ bound_parts d
op_parts s _ = []

-- of a processor on which a thread runs, and of one on which none runs
abbrev pub run_parts : Work → State → CpuId → Option ℕ → List Part
run_parts w s c (Some t) = op_parts s (op_of w t (thread_of s t).body)
run_parts w s c None = real_time_part (cpu_of s c.0).set ∷ []

abbrev pub cpu_parts : Work → State → CpuId → List Part
cpu_parts w s c = cpu_part c ∷ run_parts w s c (runner s c.0)

-- after a duty that gave a plan or none: where a nap that is over or the ageing gives one, no operation is looked at
abbrev pub later_parts : Work → State → CpuId → Option Plan → Option Plan → List Part
later_parts w s c (Some p) later = []
later_parts w s c None (Some p) = cpu_part c ∷ []
later_parts w s c None None = cpu_parts w s c

-- of a plan: of the duty, and where that gives none, of what comes after
abbrev pub plan_parts : Work → State → CpuId → List Part
plan_parts w s c =
    actor_part c ∷ task_parts s (task_of (cpu_of s c.0).duty)
    (later_parts w s c (duty_plan w s c.0) (first_of (nap_plan w s c.0) (ageing_plan w s c.0)))

-- of the choice of a processor for a thread, and of a victim
abbrev pub read_parts : Work → State → CpuId → Plan → List Part
read_parts w s c (Make event) = []
read_parts w s c (Place placement p) = actor_part c ∷ thread_part (thread_id (placed_thread placement)) ∷ real_time_part (set_of w (placed_thread placement)) ∷ []
read_parts w s c Search = ready_parts s c

abbrev pub choice_parts : Work → State → CpuId → Option Hints → Plan → List Part
choice_parts w s c hints (Make event) = []
choice_parts w s c hints (Place placement p) = read_parts w s c (Place placement p)
choice_parts w s c hints Search = ready_parts s c ++ victim_parts (victim_for s c.0 hints)

-- of what is read and of the event behind a plan
abbrev pub turn_parts : Work → State → CpuId → Option Hints → Plan → List Part
turn_parts w s c hints p = read_parts w s c p ++ choice_parts w s c hints p

-- of what is read, of the event that follows from it, and of both
abbrev pub reads_parts : Work → State → CpuId → List Part
reads_parts w s c = plan_parts w s c ++ read_parts w s c (plan w s c.0)

abbrev pub needed : Work → State → CpuId → Option Hints → List Part
needed w s c hints = plan_parts w s c ++ choice_parts w s c hints (plan w s c.0)

abbrev pub next_parts : Work → State → CpuId → Option Hints → List Part
next_parts w s c hints = plan_parts w s c ++ turn_parts w s c hints (plan w s c.0)
