-- A thread on a dispatch queue, or that runs, is so after each event that does not stop it.
use Rattle.std.proofs.Common.{◌≡◌, ◌≢◌, ℕ, ◌&&◌, Bool, true, false, Option, Some, None, refl, sym, ap, ◌∙◌, subst, inl, inr, arith}
use Rattle.std.specs.Prelude.{⊤, if◌then◌else◌, ◌==◌, is_none, nat_le, ℤ}
use Rattle.std.proofs.lemmas.Bool.Decides.{nat_tests}
use Rattle.std.proofs.lemmas.Option.{same_Some}
use Rattle.sd_types.specs.declared.numbers.CpuId.{CpuId}
use Rattle.sd_types.specs.declared.numbers.ThreadId.{ThreadId}
use Rattle.sd_types.specs.declared.bodies.ThreadBody.{ThreadBody}
use Rattle.sd_types.specs.declared.events.BindAnswer.{BindAnswer}
use Rattle.sd_types.specs.declared.events.BindAnswer.TheVariants as bind_answer
use Rattle.sd_types.specs.declared.events.Event.{Event}
use Rattle.sd_types.specs.declared.events.Event.TheVariants.{Tick, Napend, Wake, Rouse, Unblock, Grant, SemaVWake}
use Rattle.sd_machine.specs.Deeds.{Whither, ToQueue, ToSleep, ToWait, ToNap, ToEnd, place_to}
use Rattle.sd_types.specs.declared.events.PrioAnswer.{PrioAnswer}
use Rattle.sd_types.specs.declared.events.PrioAnswer.TheVariants.{Changed, Refused}
use Rattle.sd_types.specs.declared.events.Put.{Put}
use Rattle.sd_types.specs.declared.events.Put.TheVariants.{Cpu, RealTime as OnRealTime}
use Rattle.sd_types.specs.declared.works.Work.{Work}
use Rattle.sd_types.specs.Priorities.{eff, eff_as}
use Rattle.sd_machine.proofs.Moves.{put_cases}
use Rattle.sd_state.specs.declared.states.Place.{Place}
use Rattle.sd_state.specs.declared.states.Place.TheVariants.{Running, Queued, RealTime, Waiting, Asleep, Napping, Ended}
use Rattle.sd_state.specs.declared.states.State.{State}
use Rattle.sd_state.specs.Opening.{opening}
use Rattle.sd_state.specs.States.{thread_of, set_of, eff_of}
use Rattle.sd_machine.specs.Bodies.{aged_class}
use Rattle.sd_machine.specs.Changes.{back_key, queue_place, place_put}
use Rattle.sd_machine.specs.Events.{after}
use Rattle.sd_machine.specs.Runs.{final}
use Rattle.sd_frames.specs.Causes.{IsCause}
use Rattle.sd_invariants.specs.Laws.{woken_by, is_runnable}
use Rattle.sd_frames.specs.Moves.{Step, put_step_if, woken_step, reordered_step, aged_step, prio_step, bind_step, step_of, Stride, Comes, Goes, Falls, Leaves, Wakes, WakesAny, Reorders, Rises, Changes, Binds, stride_of, step_by}
use Rattle.sd_frames.specs.Moves.Step.{Stay, Go}
use Rattle.sd_invariants.proofs.AgreedAfter.{IsReady}
use Rattle.sd_invariants.proofs.Movers.{mover_there}
use Rattle.sd_frames.proofs.PlaceTable.{Stepped, after_steps, step_needs}
use Rattle.sd_invariants.proofs.WokenLemmas.{woken_after}
use Rattle.sd_laws.specs.HistoryLaws.{stopped_by, runs_or_is_runnable, WakesAreCounted, WokenStayRunnable}
use Rattle.sd_laws.proofs.Carried.{IsCarried, carried_from, split}

-- where each event of a state of a run moves a thread
pub steps_after : (w : Work) (s : State) (n : ℕ) (c : CpuId) (e : Event) → IsReady w s → IsCause w s c.0 e → Stepped (step_of w s n c e) s (after w s n c e)
steps_after w s n c e ready cause = after_steps w s n c e (step_needs w s c.0 e cause) (mover_there w s n c e ready.fits ready.agreed cause)

-- a step that moves thread u, if it does, to a place where it is runnable or runs
abbrev pub IsLiveStep : ℕ → Step → Type 0
IsLiveStep u Stay = ⊤
IsLiveStep u (Go t place) = t ≡ u → runs_or_is_runnable place ≡ true

live_kept : (u : ℕ) (s r : State) (step : Step) → IsLiveStep u step → Stepped step s r → runs_or_is_runnable (thread_of s u).place ≡ true → runs_or_is_runnable (thread_of r u).place ≡ true
live_kept u s r Stay is a before = ap runs_or_is_runnable (a u) ∙ before
live_kept u s r (Go t place) is a before = elim (put_cases t place _ _ a u) [
  | inl me ↦ ap runs_or_is_runnable me.1 ∙ is (sym me.0)
  | inr other ↦ ap runs_or_is_runnable other.1 ∙ before
]

live_put : (w : Work) (n t : ℕ) (at : Put) → runs_or_is_runnable (place_put w n t at) ≡ true
live_put w n t (Cpu d) = refl
live_put w n t (OnRealTime d) = refl

live_queue : (w : Work) (t : ℕ) (c : CpuId) (key : ℤ) (b : ThreadBody) → runs_or_is_runnable (queue_place w t c key b) ≡ true
live_queue w t c key b = elim (nat_le 100 (eff b) && is_none b.bound) as (λ q. runs_or_is_runnable (if q then RealTime (set_of w t) key else Queued c key) ≡ true) [ true ↦ refl | false ↦ refl ]

live_put_if : (u : ℕ) (w : Work) (n t : ℕ) (at : Option Put) → IsLiveStep u (put_step_if w n t at)
live_put_if u w n t None = tt
live_put_if u w n t (Some at) = λ same. live_put w n t at

live_reordered : (u : ℕ) (w : Work) (n t : ℕ) (at : Option Put) (place : Place) → IsLiveStep u (reordered_step w n t at place)
live_reordered u w n t at (Running x) = tt
live_reordered u w n t at place = live_put_if u w n t at

live_prio : (u : ℕ) (w : Work) (s : State) (n : ℕ) (v : ThreadId) (answer : PrioAnswer) → IsLiveStep u (prio_step w s n v answer)
live_prio u w s n v (Changed p at) = live_reordered u w n v.0 at (thread_of s v.0).place
live_prio u w s n v (Refused denied) = tt

live_bind : (u : ℕ) (w : Work) (n v : ℕ) (answer : BindAnswer) → IsLiveStep u (bind_step w n v answer)
live_bind u w n v (bind_answer.Changed at) = live_put_if u w n v at
live_bind u w n v bind_answer.ESRCH = tt
live_bind u w n v bind_answer.EINVAL = tt
live_bind u w n v bind_answer.EPERM = tt
live_bind u w n v bind_answer.EBUSY = tt

live_woken : (u : ℕ) (w : Work) (n : ℕ) (v : Option (ThreadId × Put)) → IsLiveStep u (woken_step w n v)
live_woken u w n None = tt
live_woken u w n (Some v) = λ same. live_put w n v.0.0 v.1

live_aged : (u : ℕ) (w : Work) (s : State) (n : ℕ) (c : CpuId) (t : ℕ) → IsLiveStep u (aged_step w s n c t)
live_aged u w s n c t = elim (eff_as (aged_class w (thread_of s t).body.class) (thread_of s t).body == eff_of s t) as (λ b. IsLiveStep u (if b then Stay else Go t (Queued c (back_key n)))) [ true ↦ tt | false ↦ λ same. refl ]

abbrev to_queue : Whither → Bool
to_queue ToQueue = true
to_queue _ = false

-- who goes elsewhere than to a queue is stopped
stops_who_goes : (e : Event) (t : ℕ) (whither : Whither) → stride_of e ≡ Some (Goes t whither) → to_queue whither ≡ false → stopped_by e ≡ Some t
stops_who_goes (Tick u) t whither is off = cc
stops_who_goes e t whither is off = cc

live_goes : (u : ℕ) (w : Work) (s : State) (n : ℕ) (c : CpuId) (t : ℕ) (whither : Whither) → (to_queue whither ≡ false → t ≢ u) → IsLiveStep u (Go t (place_to w n c s t whither))
live_goes u w s n c t ToQueue other = λ same. live_queue w t c _ (thread_of s t).body
live_goes u w s n c t (ToSleep k) other = λ same. absurd (other refl same)
live_goes u w s n c t (ToWait l) other = λ same. absurd (other refl same)
live_goes u w s n c t ToNap other = λ same. absurd (other refl same)
live_goes u w s n c t ToEnd other = λ same. absurd (other refl same)

live_stride : (u : ℕ) (w : Work) (s : State) (n : ℕ) (c : CpuId) (stride : Option Stride) → ((t : ℕ) (whither : Whither) → stride ≡ Some (Goes t whither) → to_queue whither ≡ false → t ≢ u) → IsLiveStep u (step_by w s n c stride)
live_stride u w s n c None other = tt
live_stride u w s n c (Some (Comes t)) other = λ same. refl
live_stride u w s n c (Some (Goes t whither)) other = live_goes u w s n c t whither (other t whither refl)
live_stride u w s n c (Some (Falls t end)) other = λ same. live_queue w t c _ (thread_of s t).body
live_stride u w s n c (Some (Leaves t d)) other = λ same. refl
live_stride u w s n c (Some (Wakes t at)) other = λ same. live_put w n t at
live_stride u w s n c (Some (WakesAny v)) other = live_woken u w n v
live_stride u w s n c (Some (Reorders o at)) other = live_reordered u w n o.0 at (thread_of s o.0).place
live_stride u w s n c (Some (Rises t)) other = live_aged u w s n c t
live_stride u w s n c (Some (Changes t v answer)) other = live_prio u w s n v answer
live_stride u w s n c (Some (Binds v answer)) other = live_bind u w n v answer

-- each event but one that stops u
pub live_step : (u : ℕ) (w : Work) (s : State) (n : ℕ) (c : CpuId) (e : Event) → stopped_by e ≢ Some u → IsLiveStep u (step_of w s n c e)
live_step u w s n c e goes_on = live_stride u w s n c (stride_of e) (λ t whither is off same. goes_on (stops_who_goes e t whither is off ∙ ap Some same))

live_carried : (w : Work) (u : ℕ) → IsCarried w (λ s. runs_or_is_runnable (thread_of s u).place ≡ true) (λ e. stopped_by e ≢ Some u)
live_carried w u = record { step = λ s n c e ready cause goes_on before. live_kept u s (after w s n c e) (step_of w s n c e) (live_step u w s n c e goes_on) (steps_after w s n c e ready cause) before }

runnable_live : (p : Place) → is_runnable p ≡ true → runs_or_is_runnable p ≡ true
runnable_live (Queued c k) is = refl
runnable_live (RealTime c k) is = refl
runnable_live (Running c) is = refl
runnable_live (Waiting l side k) is = cc
runnable_live (Asleep c k) is = cc
runnable_live (Napping c k) is = cc
runnable_live Ended is = cc

-- What the accounts count.

tested : (a t : ℕ) → (a == t) ≡ true → Some a ≡ Some t
tested a t is = let same : a ≡ t = grind (arith, nat_tests) in ap Some same

test_is : (a t : ℕ) → Some a ≡ Some t → (a == t) ≡ true
test_is a t is = let same : a ≡ t = same_Some a t is in grind (arith, nat_tests)

pub counted_law : WakesAreCounted
counted_law (Napend u at) = (λ t. (λ is. tested u.0 t is, λ is. test_is u.0 t is), refl)
counted_law (Wake u k (Some v)) = (λ t. (λ is. tested v.0.0 t is, λ is. test_is v.0.0 t is), refl)
counted_law (Wake u k None) = (λ t. (λ is. cc, λ is. cc), refl)
counted_law (Rouse k (Some v)) = (λ t. (λ is. tested v.0.0 t is, λ is. test_is v.0.0 t is), refl)
counted_law (Rouse k None) = (λ t. (λ is. cc, λ is. cc), refl)
counted_law (Unblock l v at) = (λ t. (λ is. tested v.0 t is, λ is. test_is v.0 t is), refl)
counted_law (Grant l v at) = (λ t. (λ is. tested v.0 t is, λ is. test_is v.0 t is), refl)
counted_law (SemaVWake u k v at) = (λ t. (λ is. tested v.0 t is, λ is. test_is v.0 t is), refl)
counted_law _ = (λ t. (λ is. cc, λ is. cc), refl)

pub runnable_law : WokenStayRunnable
runnable_law = λ w es more e t run wakes goes_on.
    let at = split w es more e run in
    let woken : woken_by e.event ≡ Some t = ((counted_law e.event).0 t).0 wakes in
    let live : runs_or_is_runnable (thread_of (after w (final w (opening w) es) e.number e.cpu e.event) t).place ≡ true =
    runnable_live _ (woken_after w (final w (opening w) es) e.number e.cpu e.event t at.ready at.cause woken) in
    subst (λ x. runs_or_is_runnable (thread_of x t).place ≡ true) (sym at.ends)
    (carried_from w (λ s. runs_or_is_runnable (thread_of s t).place ≡ true) (λ x. stopped_by x ≢ Some t) (live_carried w t) _ _ more at.there live at.rest goes_on)
