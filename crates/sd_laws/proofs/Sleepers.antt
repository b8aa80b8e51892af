-- A thread that is asleep stays so, at its place, after each event that does not wake it.
use Rattle.std.proofs.Common.{◌≡◌, ◌≢◌, ℕ, ◌<◌, Bool, true, false, length, Option, Some, None, refl, sym, ap, ◌∙◌, subst, ◌⊎◌, inl, inr, arith}
use Rattle.std.specs.Prelude.{⊤, if◌then◌else◌, ◌==◌, is_none, ℤ}
use Rattle.std.proofs.lemmas.Bool.{false≢true, cases_lt}
use Rattle.std.proofs.lemmas.Bool.Decides.{nat_tests}
use Rattle.std.proofs.lemmas.List.{get_or_past}
use Rattle.std.proofs.lemmas.Option.{same_Some}
use Rattle.sd_basics.proofs.Truths.{and_left}
use Rattle.sd_types.specs.declared.numbers.ChanId.{ChanId}
use Rattle.sd_types.specs.declared.numbers.CpuId.{CpuId}
use Rattle.sd_types.specs.declared.numbers.ThreadId.{ThreadId}
use Rattle.sd_types.specs.declared.events.BindAnswer.{BindAnswer}
use Rattle.sd_types.specs.declared.events.BindAnswer.TheVariants as bind_answer
use Rattle.sd_types.specs.declared.events.Event.{Event}
use Rattle.sd_types.specs.declared.events.Event.TheVariants.{Tick, Dispatch, Steal, Napend, Wake, Rouse, Will, Unblock, Grant, Age, Prio, SemaVWake, SemaVCount, Move, Bind}
use Rattle.sd_types.specs.declared.events.PrioAnswer.{PrioAnswer}
use Rattle.sd_types.specs.declared.events.PrioAnswer.TheVariants.{Changed, Refused}
use Rattle.sd_types.specs.declared.events.Put.{Put}
use Rattle.sd_types.specs.declared.scripts.Request.{Request}
use Rattle.sd_types.specs.declared.works.Work.{Work}
use Rattle.sd_types.specs.Priorities.{eff_as}
use Rattle.sd_machine.proofs.Moves.{put_cases}
use Rattle.sd_machine.specs.declared.plans.Requeue.{Requeue}
use Rattle.sd_machine.specs.declared.plans.Requeue.TheVariants.{Stays, Behind, Anew}
use Rattle.sd_state.specs.declared.states.Place.{Place}
use Rattle.sd_state.specs.declared.states.Place.TheVariants.{Running, Queued, Asleep}
use Rattle.sd_state.specs.declared.states.ThreadState.{ThreadState}
use Rattle.sd_state.specs.declared.states.State.{State}
use Rattle.sd_state.specs.Opening.{opening}
use Rattle.sd_state.specs.States.{no_thread, thread_of, cpu_of, is_running, is_queued, is_ready, eff_of}
use Rattle.sd_machine.specs.Bodies.{aged_class}
use Rattle.sd_machine.specs.Changes.{back_key}
use Rattle.sd_machine.specs.Events.{after}
use Rattle.sd_machine.specs.Requeueing.{requeue}
use Rattle.sd_machine.specs.Runs.{final}
use Rattle.sd_machine.specs.SetChanges.{bound_put, unbound_put, bind_put, bind_to}
use Rattle.sd_machine.specs.Threads.{best_sleeper, is_asleep, is_ts, next_to_age, runner}
use Rattle.sd_frames.specs.Causes.{IsRequeuedAt, IsAnswered, IsCause}
use Rattle.sd_invariants.specs.Laws.{woken_by}
use Rattle.sd_frames.specs.Moves.{Step, put_step_if, reordered_step, aged_step, prio_step, bind_step, step_of, Stride, Goes, Falls, Leaves, WakesAny, leaver, stride_of, step_by}
use Rattle.sd_machine.specs.Deeds.{ToSleep}
use Rattle.sd_frames.proofs.Leavers.{leaver_runs}
use Rattle.sd_frames.specs.Moves.Step.{Stay, Go}
use Rattle.sd_invariants.proofs.AgreedAfter.{IsReady}
use Rattle.sd_frames.proofs.Found.{runner_found, ready_found, queued_found, unbound_found, age_found}
use Rattle.sd_invariants.proofs.Movers.{bind_put_is, kept_stays, behind_goes, anew_goes}
use Rattle.sd_frames.proofs.PlaceTable.{Stepped}
use Rattle.sd_frames.proofs.Searches.{sleeper_some}
use Rattle.sd_laws.specs.HistoryLaws.{put_to_sleep, finds_nobody, SleepersSleepUntilWoken, WaitersSleepUntilWoken}
use Rattle.sd_laws.proofs.Carried.{IsCarried, IsMet, carried_from, met_from, split}
use Rattle.sd_laws.proofs.Runnable.{steps_after}

abbrev pub sleeps : Place → Bool
sleeps (Asleep k key) = true
sleeps _ = false

-- Places where no thread sleeps.

pub running_awake : (c : ℕ) (p : Place) → is_running c p ≡ true → sleeps p ≡ false
running_awake c (Asleep j k) e = cc
running_awake c p e = refl

queued_awake : (c : ℕ) (p : Place) → is_queued c p ≡ true → sleeps p ≡ false
queued_awake c (Asleep j k) e = cc
queued_awake c p e = refl

ready_awake : (c q : ℕ) (p : Place) → is_ready c q p ≡ true → sleeps p ≡ false
ready_awake c q (Asleep j k) e = cc
ready_awake c q p e = refl

-- who is requeued does not sleep

requeued_awake : (p : Place) (old new : ℕ) (bound : Option CpuId) (r : Requeue) → requeue p old new bound ≡ r → r ≢ Stays → sleeps p ≡ false
requeued_awake (Asleep i k) old new bound r e goes = absurd (goes (sym e ∙ kept_stays (old == new)))
requeued_awake p old new bound r e goes = refl

requeued_at_awake : (w : Work) (s : State) (t p : ℕ) (at : Put) → IsRequeuedAt w s t p (Some at) → sleeps (thread_of s t).place ≡ false
requeued_at_awake w s t p at (inl is) = requeued_awake (thread_of s t).place (eff_of s t) p (thread_of s t).body.bound (Behind is.0) is.1 (behind_goes is.0)
requeued_at_awake w s t p at (inr is) = requeued_awake (thread_of s t).place (eff_of s t) p (thread_of s t).body.bound Anew is.0 anew_goes

-- who is bound or set free and moves does not sleep

bound_awake : (d : CpuId) (p : Place) (at : Put) → bound_put d p ≡ Some at → sleeps p ≡ false
bound_awake d (Asleep i k) at e = cc
bound_awake d p at e = refl

unbound_awake : (n : ℕ) (b : Option CpuId) (p : Place) (at : Put) → unbound_put n b p ≡ Some at → sleeps p ≡ false
unbound_awake n (Some b) (Asleep i k) at e = cc
unbound_awake n None (Asleep i k) at e = cc
unbound_awake n b p at e = refl

bind_put_awake : (s : State) (u : ℕ) (d : Option CpuId) (at : Put) → bind_put s u d ≡ Some at → sleeps (thread_of s u).place ≡ false
bind_put_awake s u (Some d) at e = bound_awake d (thread_of s u).place at e
bind_put_awake s u None at e = unbound_awake (eff_of s u) (thread_of s u).body.bound (thread_of s u).place at e

-- A step moves a thread that does not sleep, or the one that the event wakes.

abbrev pub Rouses : State → Option ℕ → Step → Type 0
Rouses s woken Stay = ⊤
Rouses s woken (Go t place) = (woken ≡ Some t) ⊎ (sleeps (thread_of s t).place ≡ false)

runner_rouses : (s : State) (woken : Option ℕ) (c t : ℕ) → runner s c ≡ Some t → (woken ≡ Some t) ⊎ (sleeps (thread_of s t).place ≡ false)
runner_rouses s woken c t e = inr (running_awake c (thread_of s t).place (runner_found s c t e).stands)

put_rouses : (w : Work) (s : State) (woken : Option ℕ) (n t p : ℕ) (at : Option Put) → IsRequeuedAt w s t p at → Rouses s woken (put_step_if w n t at)
put_rouses w s woken n t p None is = tt
put_rouses w s woken n t p (Some at) is = inr (requeued_at_awake w s t p at is)

reordered_rouses : (w : Work) (s : State) (woken : Option ℕ) (n t p : ℕ) (at : Option Put) (place : Place) → IsRequeuedAt w s t p at → Rouses s woken (reordered_step w n t at place)
reordered_rouses w s woken n t p at (Running x) is = tt
reordered_rouses w s woken n t p at place is = put_rouses w s woken n t p at is

aged_rouses : (w : Work) (s : State) (woken : Option ℕ) (n : ℕ) (c : CpuId) (u t : ℕ) → next_to_age s c.0 u ≡ Some t → Rouses s woken (aged_step w s n c t)
aged_rouses w s woken n c u t e = elim (eff_as (aged_class w (thread_of s t).body.class) (thread_of s t).body == eff_of s t) as (λ b. Rouses s woken (if b then Stay else Go t (Queued c (back_key n)))) [
  | true ↦ tt
  | false ↦ inr (queued_awake c.0 (thread_of s t).place (and_left _ (is_ts (thread_of s t).body.class) (age_found s c.0 u t e).stands))
]

prio_rouses : (w : Work) (s : State) (woken : Option ℕ) (n c t : ℕ) (u : ThreadId) (r : Request) (answer : PrioAnswer) → IsAnswered w s c t u.0 r answer → Rouses s woken (prio_step w s n u answer)
prio_rouses w s woken n c t u r (Changed p at) is = reordered_rouses w s woken n u.0 p at (thread_of s u.0).place is.3
prio_rouses w s woken n c t u r (Refused denied) is = tt

bind_rouses : (w : Work) (s : State) (woken : Option ℕ) (n t u : ℕ) (d : Option CpuId) (answer : BindAnswer) → answer ≡ bind_to w s t u d → Rouses s woken (bind_step w n u answer)
bind_rouses w s woken n t u d (bind_answer.Changed (Some at)) is = inr (bind_put_awake s u d at (bind_put_is w s t u d (Some at) (sym is)))
bind_rouses w s woken n t u d answer is = tt

-- a thread that leaves the processor, or none at all
abbrev is_own : Option Stride → Bool
is_own None = true
is_own (Some (Goes t whither)) = true
is_own (Some (Falls t end)) = true
is_own (Some (Leaves t d)) = true
is_own (Some (WakesAny None)) = true
is_own _ = false

own_rouses : (w : Work) (s : State) (woken : Option ℕ) (n : ℕ) (c : CpuId) (stride : Option Stride) → is_own stride ≡ true → ((t : ℕ) → leaver stride ≡ Some t → runner s c.0 ≡ Some t) → Rouses s woken (step_by w s n c stride)
own_rouses w s woken n c None own runs = tt
own_rouses w s woken n c (Some (Goes t whither)) own runs = runner_rouses s woken c.0 t (runs t refl)
own_rouses w s woken n c (Some (Falls t end)) own runs = runner_rouses s woken c.0 t (runs t refl)
own_rouses w s woken n c (Some (Leaves t d)) own runs = runner_rouses s woken c.0 t (runs t refl)
own_rouses w s woken n c (Some (WakesAny None)) own runs = tt
own_rouses w s woken n c _ own runs = cc

rouses : (w : Work) (s : State) (n : ℕ) (c : CpuId) (e : Event) → IsCause w s c.0 e → Rouses s (woken_by e) (step_of w s n c e)
rouses w s n c (Dispatch t p) cause = inr (ready_awake c.0 (cpu_of s c.0).set.0 (thread_of s t.0).place (ready_found s c.0 t.0 cause.1).stands)
rouses w s n c (Steal v t p) cause = inr (queued_awake v.0 (thread_of s t.0).place (and_left _ (is_none (thread_of s t.0).body.bound) (unbound_found s v.0 t.0 cause.3).stands))
rouses w s n c (Napend t at) cause = inl refl
rouses w s n c (Wake t k (Some u)) cause = inl refl
rouses w s n c (Rouse k (Some u)) cause = inl refl
rouses w s n c (Will l o p at) cause = reordered_rouses w s None n o.0 p at (thread_of s o.0).place cause.3
rouses w s n c (Unblock l u at) cause = inl refl
rouses w s n c (Grant l u at) cause = inl refl
rouses w s n c (Age t p) cause = aged_rouses w s None n c (cause.0).0 t.0 cause.2
rouses w s n c (Prio t u answer) cause = prio_rouses w s None n c.0 t.0 u cause.0 answer cause.2
rouses w s n c (SemaVWake t k u at) cause = inl refl
rouses w s n c (Move t at) cause = inr (queued_awake c.0 (thread_of s t.0).place (queued_found s c.0 t.0 cause.1).stands)
rouses w s n c (Bind t u d answer) cause = bind_rouses w s None n t.0 u.0 d answer cause.1
rouses w s n c e cause = own_rouses w s (woken_by e) n c (stride_of e) refl (leaver_runs w s c.0 e cause)

asleep_kept : (s r : State) (u : ℕ) (woken : Option ℕ) (step : Step) → Rouses s woken step → Stepped step s r → woken ≢ Some u → sleeps (thread_of s u).place ≡ true → (thread_of r u).place ≡ (thread_of s u).place
asleep_kept s r u woken Stay is a unwoken asleep = a u
asleep_kept s r u woken (Go t place) is a unwoken asleep = elim (put_cases t place _ _ a u) [
  | inl me ↦ elim is [
    | inl wakes ↦ absurd (unwoken (wakes ∙ ap Some (sym me.0)))
    | inr awake ↦ absurd (false≢true (sym awake ∙ ap (λ v. sleeps (thread_of s v).place) (sym me.0) ∙ asleep))
  ]
  | inr other ↦ other.1
]

-- a thread that sleeps stays where it is
pub sleeper_kept : (w : Work) (s : State) (n : ℕ) (c : CpuId) (e : Event) (u : ℕ) → IsReady w s → IsCause w s c.0 e → woken_by e ≢ Some u → sleeps (thread_of s u).place ≡ true → (thread_of (after w s n c e) u).place ≡ (thread_of s u).place
sleeper_kept w s n c e u ready cause unwoken asleep = asleep_kept s (after w s n c e) u (woken_by e) (step_of w s n c e) (rouses w s n c e cause) (steps_after w s n c e ready cause) unwoken asleep

sleeper_carried : (w : Work) (u : ℕ) (k : ChanId) (key : ℤ) → IsCarried w (λ s. (thread_of s u).place ≡ Asleep k key) (λ e. woken_by e ≢ Some u)
sleeper_carried w u k key = record { step = λ s n c e ready cause unwoken asleep. sleeper_kept w s n c e u ready cause unwoken (ap sleeps asleep) ∙ asleep }

-- Where a thread sleeps, no wakeup of its channel finds nobody.

asleep_inside : (s : State) (t : ℕ) → sleeps (thread_of s t).place ≡ true → t < length s.threads
asleep_inside s t asleep = elim (cases_lt t (length s.threads)) [
  | inl inside ↦ inside
  | inr past ↦ absurd (false≢true (sym (ap (λ (x : ThreadState). sleeps x.place) (get_or_past s.threads t no_thread past)) ∙ asleep))
]

pub someone_asleep : (s : State) (t : ℕ) (k : ChanId) (key : ℤ) → (thread_of s t).place ≡ Asleep k key → best_sleeper s k.0 ≢ None
someone_asleep s t k key asleep =
    let same : (k.0 == k.0) ≡ true = grind (arith, nat_tests) in
    sleeper_some s k.0 t (asleep_inside s t (ap sleeps asleep)) (ap (is_asleep k.0) asleep ∙ same)

pub found : (w : Work) (u : ℕ) (k : ChanId) (key : ℤ) → IsMet w (λ s. (thread_of s u).place ≡ Asleep k key) (λ e. finds_nobody e ≢ Some k)
found w u k key s c (Wake t j None) ready cause asleep = λ is. someone_asleep s u k key asleep (subst (λ (x : ChanId). best_sleeper s x.0 ≡ None) (same_Some j k is) cause.1)
found w u k key s c (SemaVCount t j m) ready cause asleep = λ is. someone_asleep s u k key asleep (subst (λ (x : ChanId). best_sleeper s x.0 ≡ None) (same_Some j k is) cause.1)
found w u k key s c _ ready cause asleep = λ is. cc

-- The event puts the thread to sleep.

abbrev sleeps_off : Option (ThreadId × ChanId) → Option Stride
sleeps_off None = None
sleeps_off (Some x) = Some (Goes x.0.0 (ToSleep x.1))

sleep_stride : (e : Event) (x : ThreadId × ChanId) → put_to_sleep e ≡ Some x → stride_of e ≡ sleeps_off (put_to_sleep e)
sleep_stride (Tick u) x is = cc
sleep_stride e x is = cc

pub falls : (w : Work) (s : State) (n : ℕ) (c : CpuId) (e : Event) (t : ThreadId) (k : ChanId) → IsReady w s → IsCause w s c.0 e → put_to_sleep e ≡ Some (t, k) → (thread_of (after w s n c e) t.0).place ≡ Asleep k (back_key n)
falls w s n c e t k ready cause is = (subst (λ o. Stepped (step_by w s n c o) s (after w s n c e)) (sleep_stride e (t, k) is ∙ ap sleeps_off is) (steps_after w s n c e ready cause)).at

pub sleepers_law : SleepersSleepUntilWoken
sleepers_law = λ w es more e t k run puts unwoken.
    let at = split w es more e run in
    let r : State = after w (final w (opening w) es) e.number e.cpu e.event in
    let asleep : (thread_of r t.0).place ≡ Asleep k (back_key e.number) = falls w (final w (opening w) es) e.number e.cpu e.event t k at.ready at.cause puts in
    let stays = sleeper_carried w t.0 k (back_key e.number) in (
      subst (λ x. (thread_of x t.0).place ≡ Asleep k (back_key e.number)) (sym at.ends)
          (carried_from w (λ s. (thread_of s t.0).place ≡ Asleep k (back_key e.number)) (λ x. woken_by x ≢ Some t.0) stays r _ more at.there asleep at.rest unwoken),
      met_from w (λ s. (thread_of s t.0).place ≡ Asleep k (back_key e.number)) (λ x. woken_by x ≢ Some t.0) stays (λ x. finds_nobody x ≢ Some k) (found w t.0 k (back_key e.number)) r _ more at.there asleep at.rest unwoken,
    )

pub waiters_law : WaitersSleepUntilWoken
waiters_law = λ w es more e t k m run waits unwoken.
    let (asleep, met) = sleepers_law w es more e t k run (ap put_to_sleep waits) unwoken in
    (asleep, λ i d inside u is. met i d inside (ap finds_nobody is))
