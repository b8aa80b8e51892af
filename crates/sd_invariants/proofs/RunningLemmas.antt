-- At most one thread runs on each processor.
use Rattle.std.proofs.Common.{◌≡◌, ℕ, ◌<◌, Bool, true, false, ◌&&◌, length, Option, Some, None, refl, sym, ap, ◌∙◌, subst, arith, inl, inr}
use Rattle.std.specs.Prelude.{⊤, nat_lt, nat_le, ◌==◌, if◌then◌else◌, is_none, ℤ}
use Rattle.std.proofs.lemmas.Bool.Decides.{nat_tests}
use Rattle.sd_types.specs.declared.numbers.CpuId.{CpuId}
use Rattle.sd_types.specs.declared.numbers.ThreadId.{ThreadId}
use Rattle.sd_types.specs.declared.events.BindAnswer.{BindAnswer}
use Rattle.sd_types.specs.declared.events.BindAnswer.TheVariants as bind_answer
use Rattle.sd_types.specs.declared.events.Event.{Event}
use Rattle.sd_types.specs.declared.events.Event.TheVariants.{Dispatch, Steal}
use Rattle.sd_machine.specs.Deeds.{Whither, ToQueue, ToSleep, ToWait, ToNap, ToEnd, place_to}
use Rattle.sd_types.specs.declared.events.PrioAnswer.{PrioAnswer}
use Rattle.sd_types.specs.declared.events.PrioAnswer.TheVariants.{Changed, Refused}
use Rattle.sd_types.specs.declared.events.Put.{Put}
use Rattle.sd_types.specs.declared.events.Put.TheVariants.{Cpu, RealTime as OnRealTime}
use Rattle.sd_types.specs.declared.works.Work.{Work}
use Rattle.sd_types.specs.Priorities.{eff_as}
use Rattle.sd_state.specs.declared.states.Place.{Place}
use Rattle.sd_state.specs.declared.states.Place.TheVariants.{Running, Queued, RealTime}
use Rattle.sd_state.specs.declared.states.State.{State}
use Rattle.sd_state.specs.States.{thread_of, is_running, set_of, eff_of}
use Rattle.sd_machine.specs.Changes.{back_key}
use Rattle.sd_machine.specs.Threads.{runner}
use Rattle.sd_machine.specs.Bodies.{aged_class}
use Rattle.sd_frames.specs.Causes.{IsCause}
use Rattle.sd_frames.specs.Moves.{Step, put_step_if, woken_step, reordered_step, aged_step, prio_step, bind_step, step_of, Stride, Comes, Goes, Falls, Leaves, Wakes, WakesAny, Reorders, Rises, Changes, Binds, stride_of, step_by}
use Rattle.sd_frames.specs.Moves.Step.{Stay, Go}
use Rattle.sd_frames.proofs.PlaceTable.{Stepped}
use Rattle.sd_machine.proofs.Moves.{put_cases}
use Rattle.std.specs.List.{position_or_len}
use Rattle.std.proofs.Common.{cond}
use Rattle.std.proofs.lemmas.Bool.{eqb-true, false≢true}
use Rattle.std.proofs.lemmas.List.Sums.{fails_before_first}
use Rattle.sd_types.specs.declared.bodies.ThreadBody.{ThreadBody}
use Rattle.sd_types.specs.Priorities.{eff}
use Rattle.sd_state.specs.declared.states.ThreadState.{ThreadState}
use Rattle.sd_state.specs.States.{no_thread}
use Rattle.sd_state.specs.Opening.{opening}
use Rattle.sd_machine.specs.Changes.{queue_place, place_put, key_at}
use Rattle.sd_machine.specs.Events.{after}
use Rattle.sd_machine.proofs.ShapeLemmas.{after_shape}
use Rattle.sd_state.specs.Invariants.{OneRuns}
use Rattle.sd_frames.proofs.PlaceTable.{after_steps, step_needs}
use Rattle.sd_invariants.proofs.Movers.{mover_there}
use Rattle.sd_invariants.proofs.AgreedAfter.{IsReady}
use Rattle.sd_state.proofs.Openings.{opening_runs_none}

-- where no runner is found, no thread runs
nobody_runs : (s : State) (c : ℕ) → runner s c ≡ None → (t : ℕ) → t < length s.threads → is_running c (thread_of s t).place ≡ false
unfolding runner
nobody_runs s c none t inside = fails_before_first (λ (x : ThreadState). is_running c x.place) s.threads t no_thread (by (nat_lt (position_or_len (λ (x : ThreadState). is_running c x.place) s.threads) (length s.threads)) refl none)
  where
    by : (b : Bool) → nat_lt (position_or_len (λ (x : ThreadState). is_running c x.place) s.threads) (length s.threads) ≡ b → cond b (Some (position_or_len (λ (x : ThreadState). is_running c x.place) s.threads)) None ≡ None
        → t < position_or_len (λ (x : ThreadState). is_running c x.place) s.threads
    by true e is = cc
    by false e is = grind (arith, nat_tests, inside)

-- who comes to run does so where nobody ran
abbrev StartsWell : State → Step → Type 0
StartsWell s Stay = ⊤
StartsWell s (Go m place) = (x : ℕ) → is_running x place ≡ true → runner s x ≡ None

dispatch_starts : (s : State) (c : CpuId) → runner s c.0 ≡ None → (x : ℕ) → is_running x (Running c) ≡ true → runner s x ≡ None
dispatch_starts s c nobody x on = subst (λ d. runner s d ≡ None) (eqb-true c.0 x on) nobody

put_starts : (w : Work) (s : State) (n t : ℕ) (at : Put) (x : ℕ) → is_running x (place_put w n t at) ≡ true → runner s x ≡ None
put_starts w s n t (Cpu d) x on = cc
put_starts w s n t (OnRealTime d) x on = cc

queue_starts : (w : Work) (s : State) (t : ℕ) (c : CpuId) (k : ℤ) (b : ThreadBody) (x : ℕ) → is_running x (queue_place w t c k b) ≡ true → runner s x ≡ None
queue_starts w s t c k b x on = absurd (false≢true (sym (still (nat_le 100 (eff b) && is_none b.bound)) ∙ on))
  where
    still : (v : Bool) → is_running x (if v then RealTime (set_of w t) k else Queued c k) ≡ false
    still true = refl
    still false = refl

put_if_starts : (w : Work) (s : State) (n t : ℕ) (at : Option Put) → StartsWell s (put_step_if w n t at)
put_if_starts w s n t None = tt
put_if_starts w s n t (Some at) = put_starts w s n t at

woken_starts : (w : Work) (s : State) (n : ℕ) (u : Option (ThreadId × Put)) → StartsWell s (woken_step w n u)
woken_starts w s n None = tt
woken_starts w s n (Some u) = put_starts w s n u.0.0 u.1

reordered_starts : (w : Work) (s : State) (n t : ℕ) (at : Option Put) (p : Place) → StartsWell s (reordered_step w n t at p)
reordered_starts w s n t at (Running x) = tt
reordered_starts w s n t at p = put_if_starts w s n t at

queued_starts : (s : State) (c : CpuId) (k : ℤ) (x : ℕ) → is_running x (Queued c k) ≡ true → runner s x ≡ None
queued_starts s c k x on = cc

aged_starts : (w : Work) (s : State) (n : ℕ) (c : CpuId) (t : ℕ) → StartsWell s (aged_step w s n c t)
aged_starts w s n c t = elim (eff_as (aged_class w (thread_of s t).body.class) (thread_of s t).body == eff_of s t) as (λ b. StartsWell s (if b then Stay else Go t (Queued c (back_key n)))) [ true ↦ tt | false ↦ queued_starts s c (back_key n) ]

prio_starts : (w : Work) (s : State) (n : ℕ) (u : ThreadId) (answer : PrioAnswer) → StartsWell s (prio_step w s n u answer)
prio_starts w s n u (Changed p at) = reordered_starts w s n u.0 at (thread_of s u.0).place
prio_starts w s n u (Refused d) = tt

bind_starts : (w : Work) (s : State) (n u : ℕ) (answer : BindAnswer) → StartsWell s (bind_step w n u answer)
bind_starts w s n u (bind_answer.Changed at) = put_if_starts w s n u at
bind_starts w s n u bind_answer.ESRCH = tt
bind_starts w s n u bind_answer.EINVAL = tt
bind_starts w s n u bind_answer.EPERM = tt
bind_starts w s n u bind_answer.EBUSY = tt

-- no thread runs where one comes
comes_idle : (w : Work) (s : State) (c : ℕ) (e : Event) → IsCause w s c e → (t : ℕ) → stride_of e ≡ Some (Comes t) → runner s c ≡ None
comes_idle w s c (Dispatch u p) cause t is = cause.0.idle.nobody
comes_idle w s c (Steal v u p) cause t is = cause.0.idle.nobody
comes_idle w s c e cause t is = cc

goes_starts : (w : Work) (s : State) (n : ℕ) (c : CpuId) (t : ℕ) (whither : Whither) → StartsWell s (Go t (place_to w n c s t whither))
goes_starts w s n c t ToQueue = queue_starts w s t c (back_key n) (thread_of s t).body
goes_starts w s n c t (ToSleep k) = λ x e. cc
goes_starts w s n c t (ToWait l) = λ x e. cc
goes_starts w s n c t ToNap = λ x e. cc
goes_starts w s n c t ToEnd = λ x e. cc

stride_starts : (w : Work) (s : State) (n : ℕ) (c : CpuId) (stride : Option Stride) → ((t : ℕ) → stride ≡ Some (Comes t) → runner s c.0 ≡ None) → StartsWell s (step_by w s n c stride)
stride_starts w s n c None idle = tt
stride_starts w s n c (Some (Comes t)) idle = dispatch_starts s c (idle t refl)
stride_starts w s n c (Some (Goes t whither)) idle = goes_starts w s n c t whither
stride_starts w s n c (Some (Falls t end)) idle = queue_starts w s t c (key_at n end) (thread_of s t).body
stride_starts w s n c (Some (Leaves t d)) idle = λ x e. cc
stride_starts w s n c (Some (Wakes t at)) idle = put_starts w s n t at
stride_starts w s n c (Some (WakesAny u)) idle = woken_starts w s n u
stride_starts w s n c (Some (Reorders o at)) idle = reordered_starts w s n o.0 at (thread_of s o.0).place
stride_starts w s n c (Some (Rises t)) idle = aged_starts w s n c t
stride_starts w s n c (Some (Changes t u answer)) idle = prio_starts w s n u answer
stride_starts w s n c (Some (Binds u answer)) idle = bind_starts w s n u answer

starts_well : (w : Work) (s : State) (n : ℕ) (c : CpuId) (e : Event) → IsCause w s c.0 e → StartsWell s (step_of w s n c e)
starts_well w s n c e cause = stride_starts w s n c (stride_of e) (comes_idle w s c.0 e cause)

one_after : (step : Step) (s r : State) → length r.threads ≡ length s.threads → Stepped step s r → StartsWell s step → OneRuns s → OneRuns r
one_after Stay s r many a well one = λ t u c t_in u_in t_on u_on.
    one t u c (omega (arith, many, t_in)) (omega (arith, many, u_in)) (ap (λ p. is_running c p) (sym (a t)) ∙ t_on) (ap (λ p. is_running c p) (sym (a u)) ∙ u_on)
one_after (Go m place) s r many a well one = λ t u c t_in u_in t_on u_on.
    let t_was : t < length s.threads = omega (arith, many, t_in) in
    let u_was : u < length s.threads = omega (arith, many, u_in) in
    elim (put_cases m place _ _ a t) [
      | inl here ↦ elim (put_cases m place _ _ a u) [
        | inl also ↦ here.0 ∙ sym also.0
        | inr other ↦ absurd (false≢true (sym (nobody_runs s c (well c (ap (λ p. is_running c p) (sym here.1) ∙ t_on)) u u_was) ∙ ap (λ p. is_running c p) (sym other.1) ∙ u_on))
      ]
      | inr there ↦ elim (put_cases m place _ _ a u) [
        | inl also ↦ absurd (false≢true (sym (nobody_runs s c (well c (ap (λ p. is_running c p) (sym also.1) ∙ u_on)) t t_was) ∙ ap (λ p. is_running c p) (sym there.1) ∙ t_on))
        | inr other ↦ one t u c t_was u_was (ap (λ p. is_running c p) (sym there.1) ∙ t_on) (ap (λ p. is_running c p) (sym other.1) ∙ u_on)
      ]
    ]

pub one_kept : (w : Work) (s : State) (n : ℕ) (c : CpuId) (e : Event) → IsReady w s → IsCause w s c.0 e → OneRuns s → OneRuns (after w s n c e)
one_kept w s n c e ready cause one =
    one_after (step_of w s n c e) s (after w s n c e) (after_shape w s n c e).threads (after_steps w s n c e (step_needs w s c.0 e cause) (mover_there w s n c e ready.fits ready.agreed cause)) (starts_well w s n c e cause) one

pub opening_one : (w : Work) → OneRuns (opening w)
opening_one w = λ t u c t_in u_in t_on u_on. absurd (false≢true (sym (opening_runs_none w t c) ∙ t_on))
