-- What a duty without its key says of the plan.
use Rattle.std.proofs.Common.{◌≡◌, ℕ, Bool, List, [], ◌∷◌, Option, Some, None, refl, sym, ap, ◌∙◌, inl, inr}
use Rattle.std.specs.Prelude.{Result, Ok, Err}
use Rattle.sd_types.specs.declared.events.Duty.{Duty}
use Rattle.sd_types.specs.declared.events.Duty.TheVariants as duty
use Rattle.sd_types.specs.declared.numbers.CpuId.{CpuId}
use Rattle.sd_types.specs.declared.works.Work.{Work}
use Rattle.sd_state.specs.declared.states.State.{State}
use Rattle.sd_state.specs.States.{cpu_of}
use Rattle.sd_machine.specs.declared.plans.Plan.{Plan}
use Rattle.sd_machine.specs.Plans.{ageing_plan, ageing_plan_of, duty_plan, duty_plan_of, first_of, nap_plan}
use Rattle.sd_machine.specs.Sleeping.{rouse_key, rouse_plan}
use Rattle.sd_machine.specs.Threads.{best_sleeper_below}
use Rattle.sd_store.specs.declared.parts.Part.{Part}
use Rattle.sd_store.specs.declared.spots.Task.{Task}
use Rattle.sd_store.specs.declared.spots.Task.TheVariants as task
use Rattle.sd_store.specs.Keyless.{task_of}
use Rattle.sd_store.specs.Parts.{IsAmong, actor_part, cpu_part}
use Rattle.sd_store.specs.Words.{Lacks}
use Rattle.sd_store.specs.Walks.{next_to_rouse}
use Rattle.sd_step.specs.Needed.{cpu_parts, later_parts, plan_parts}
use Rattle.sd_step.specs.Tasks.{task_ageing, task_parts, task_plan}

by_task : (w : Work) (s : State) (c : CpuId) (d : Duty) → (cpu_of s c.0).duty ≡ d → duty_plan_of w s d ≡ task_plan w s c (task_of d)
unfolding next_to_rouse
by_task w s c (duty.Rouse k below) e = sym (ap (λ (d : Duty). Some (rouse_plan w s k (best_sleeper_below s k.0 (rouse_key d)))) e)
by_task w s c d e = refl

pub duty_by_task : (w : Work) (s : State) (c : CpuId) → duty_plan w s c.0 ≡ task_plan w s c (task_of (cpu_of s c.0).duty)
unfolding duty_plan
duty_by_task w s c = by_task w s c (cpu_of s c.0).duty refl

ageing_by : (w : Work) (s : State) (c : CpuId) (d : Duty) → ageing_plan_of w s c.0 d ≡ task_ageing w s c (task_of d)
ageing_by w s c duty.Nothing = refl
ageing_by w s c d = refl

pub ageing_by_task : (w : Work) (s : State) (c : CpuId) → ageing_plan w s c.0 ≡ task_ageing w s c (task_of (cpu_of s c.0).duty)
unfolding ageing_plan
ageing_by_task w s c = ageing_by w s c (cpu_of s c.0).duty

-- where a duty gives no plan, what comes after is needed
after_task : (w : Work) (s : State) (c : CpuId) (t : Task) (rest : List Part) (p : Part) → task_plan w s c t ≡ None → IsAmong p rest → IsAmong p (task_parts s t rest)
after_task w s c task.Nothing rest p none among = among
after_task w s c (task.Walk l seek) rest p none among = absurd cc
after_task w s c (task.WakeMutex l) rest p none among = inr among
after_task w s c (task.GrantWriter l) rest p none among = inr among
after_task w s c (task.GrantReaders l) rest p none among = absurd cc
after_task w s c (task.Rouse k) rest p none among = absurd cc
after_task w s c (task.Age u) rest p none among = among

first_none : (a b : Option Plan) → first_of a b ≡ None → a ≡ None
first_none None b e = refl
first_none (Some x) b e = cc

-- where the duty gives none, a nap that is over needs the processor
own_later : (w : Work) (s : State) (c : CpuId) (duty later : Option Plan) (p : Part) → duty ≡ None → p ≡ cpu_part c → IsAmong p (later_parts w s c duty later)
own_later w s c None None p none e = inl e
own_later w s c None (Some x) p none e = inl e
own_later w s c (Some d) later p none e = absurd cc

-- and where neither gives any, all of the processor is needed
cpu_later : (w : Work) (s : State) (c : CpuId) (duty later : Option Plan) (p : Part) → first_of duty later ≡ None → IsAmong p (cpu_parts w s c) → IsAmong p (later_parts w s c duty later)
cpu_later w s c None None p none among = among
cpu_later w s c None (Some x) p none among = absurd cc
cpu_later w s c (Some d) later p none among = absurd cc

pub after_first : (w : Work) (s : State) (c : CpuId) → first_of (duty_plan w s c.0) (first_of (nap_plan w s c.0) (ageing_plan w s c.0)) ≡ None
    → (p : Part) → IsAmong p (actor_part c ∷ cpu_parts w s c) → IsAmong p (plan_parts w s c)
after_first w s c none p (inl e) = inl e
after_first w s c none p (inr later) =
    inr (after_task w s c (task_of (cpu_of s c.0).duty) _ p (sym (duty_by_task w s c) ∙ first_none _ _ none)
    (cpu_later w s c (duty_plan w s c.0) (first_of (nap_plan w s c.0) (ageing_plan w s c.0)) p none later))

pub after_duty : (w : Work) (s : State) (c : CpuId) → duty_plan w s c.0 ≡ None → (p : Part) → IsAmong p (actor_part c ∷ (cpu_part c ∷ [])) → IsAmong p (plan_parts w s c)
after_duty w s c none p (inl e) = inl e
after_duty w s c none p (inr (inl e)) =
    inr (after_task w s c (task_of (cpu_of s c.0).duty) _ p (sym (duty_by_task w s c) ∙ none)
    (own_later w s c (duty_plan w s c.0) (first_of (nap_plan w s c.0) (ageing_plan w s c.0)) p none e))
after_duty w s c none p (inr (inr never)) = absurd never

-- what is lacking behind a try that gave nothing is needed
pub lacks_after : {A L : Type 0} (part : L → Part) (Shows : ℕ → State → Type 0) (has : Part → Bool) (r : Result A L) (few more : State → List Part) (Nothing : State → Type 0)
    → ((s : State) → Nothing s → (p : Part) → IsAmong p (few s) → IsAmong p (more s)) → Lacks part Shows has r few → ((n : ℕ) (s : State) → Shows n s → Nothing s)
    → Lacks part Shows has r more
lacks_after part Shows has (Ok a) few more Nothing f lacks none = tt
lacks_after part Shows has (Err q) few more Nothing f lacks none = (λ n s h. f s (none n s h) (part q) (lacks.0 n s h), lacks.1)

-- what the duty itself needs
within_task : (s : State) (t : Task) (rest : List Part) (p : Part) → IsAmong p (task_parts s t []) → IsAmong p (task_parts s t rest)
within_task s task.Nothing rest p among = absurd among
within_task s (task.Walk l seek) rest p among = among
within_task s (task.WakeMutex l) rest p (inl e) = inl e
within_task s (task.WakeMutex l) rest p (inr never) = absurd never
within_task s (task.GrantWriter l) rest p (inl e) = inl e
within_task s (task.GrantWriter l) rest p (inr never) = absurd never
within_task s (task.GrantReaders l) rest p among = among
within_task s (task.Rouse k) rest p among = among
within_task s (task.Age u) rest p among = absurd among

pub within_duty : (w : Work) (s : State) (c : CpuId) (p : Part) → IsAmong p (actor_part c ∷ task_parts s (task_of (cpu_of s c.0).duty) []) → IsAmong p (plan_parts w s c)
within_duty w s c p among = elim among [
  | inl e ↦ inl e
  | inr later ↦ inr (within_task s (task_of (cpu_of s c.0).duty) _ p later)
]
