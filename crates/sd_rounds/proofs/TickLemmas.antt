-- The entries of most turns: nothing is dropped of a processor without a duty, and its tick is that of the machine.
use Rattle.std.proofs.Common.{◌≡◌, ℕ, sym, ap, ◌∙◌}
use Rattle.sd_types.specs.declared.events.Duty.TheVariants.{Nothing}
use Rattle.sd_types.specs.declared.events.Event.{Event}
use Rattle.sd_types.specs.declared.events.Event.TheVariants.{Idle, Tick}
use Rattle.sd_types.specs.declared.numbers.CpuId.{CpuId}
use Rattle.sd_types.specs.declared.numbers.ThreadId.{ThreadId}
use Rattle.sd_types.specs.declared.works.Work.{Work}
use Rattle.sd_state.specs.declared.states.State.{State}
use Rattle.sd_state.specs.States.{cpu_of}
use Rattle.sd_machine.specs.Changes.{count_tick}
use Rattle.sd_machine.specs.Dispatching.{idled, ticked}
use Rattle.sd_machine.specs.Events.{after, drop_ageing, effect}
use Rattle.sd_step.specs.Tasks.{task_dropped}
use Rattle.sd_step.proofs.Dropped.{dropped_by_task}
use Rattle.sd_store.specs.Keyless.{task_of}

-- a processor that has no duty
kept : (s : State) (c : CpuId) (e : Event) → (cpu_of s c.0).duty ≡ Nothing → drop_ageing s c.0 e ≡ s
kept s c e duty = dropped_by_task s c e ∙ ap (λ d. task_dropped s c e (task_of d)) duty

pub tick_is : (w : Work) (s : State) (n : ℕ) (c : CpuId) (t : ThreadId) → (cpu_of s c.0).duty ≡ Nothing → ticked w s c.0 t.0 ≡ after w s n c (Tick t)
unfolding after effect
tick_is w s n c t duty = ap (λ z. ticked w z c.0 t.0) (sym (kept s c (Tick t) duty))

pub idle_is : (w : Work) (s : State) (n : ℕ) (c : CpuId) → (cpu_of s c.0).duty ≡ Nothing → count_tick w s c.0 ≡ after w s n c Idle
unfolding after effect idled
idle_is w s n c duty = ap (λ z. count_tick w z c.0) (sym (kept s c Idle duty))
