-- A step of a processor moves no thread to another processor, and none away from one.
use Rattle.std.proofs.Common.{◌≡◌, ◌≢◌, ℕ, Bool, true, false, ◌&&◌, Option, Some, None, refl, sym, ap, ◌∙◌, arith, inl, inr}
use Rattle.std.specs.Prelude.{⊤, nat_le, ◌==◌, if◌then◌else◌, is_none, ℤ}
use Rattle.std.proofs.lemmas.Bool.Decides.{nat_tests}
use Rattle.sd_basics.proofs.Truths.{and_left}
use Rattle.sd_types.specs.declared.numbers.CpuId.{CpuId}
use Rattle.sd_types.specs.declared.numbers.Side.{Side}
use Rattle.sd_types.specs.declared.numbers.Side.TheVariants.{Writer, Reader}
use Rattle.sd_types.specs.declared.numbers.ThreadId.{ThreadId}
use Rattle.sd_types.specs.declared.bodies.ThreadBody.{ThreadBody}
use Rattle.sd_types.specs.declared.events.BindAnswer.{BindAnswer}
use Rattle.sd_types.specs.declared.events.BindAnswer.TheVariants as bind_answer
use Rattle.sd_types.specs.declared.events.Event.{Event}
use Rattle.sd_types.specs.declared.events.Event.TheVariants.{Dispatch, Steal, Napend, Wake, Rouse, Will, Unblock, Grant, Age, Prio, SemaVWake, Move, Bind}
use Rattle.sd_types.specs.declared.events.PrioAnswer.{PrioAnswer}
use Rattle.sd_types.specs.declared.events.PrioAnswer.TheVariants.{Changed, Refused}
use Rattle.sd_types.specs.declared.events.Put.{Put}
use Rattle.sd_types.specs.declared.events.Put.TheVariants.{Cpu, RealTime as OnRealTime}
use Rattle.sd_types.specs.declared.works.Work.{Work}
use Rattle.sd_types.specs.Priorities.{eff, eff_as}
use Rattle.sd_state.specs.declared.states.Place.{Place}
use Rattle.sd_state.specs.declared.states.Place.TheVariants.{Running, Queued, RealTime}
use Rattle.sd_state.specs.declared.states.State.{State}
use Rattle.sd_state.specs.States.{thread_of, cpu_of, is_running, is_queued, is_ready, set_of, eff_of}
use Rattle.sd_machine.specs.Bodies.{aged_class}
use Rattle.sd_machine.specs.Changes.{back_key, key_at, place_put, queue_place}
use Rattle.sd_machine.specs.Events.{after}
use Rattle.sd_machine.specs.SetChanges.{bound_put, unbound_put, bind_put, bind_to}
use Rattle.sd_machine.specs.Threads.{runner, next_to_age, is_ts, is_asleep, is_asleep_below, is_due, is_waiting_at}
use Rattle.sd_machine.proofs.Moves.{put_cases}
use Rattle.sd_frames.specs.Causes.{WakesBest, RousesBest, IsCause}
use Rattle.sd_frames.specs.Moves.{Step, put_step_if, woken_step, reordered_step, aged_step, prio_step, bind_step, step_of, Stride, Goes as Strides, Falls, Leaves, leaver, stride_of, step_by}
use Rattle.sd_machine.specs.Deeds.{ToQueue}
use Rattle.sd_frames.proofs.Leavers.{leaver_runs}
use Rattle.sd_frames.specs.Moves.Step.{Stay, Go}
use Rattle.sd_invariants.proofs.AgreedAfter.{IsReady}
use Rattle.sd_frames.proofs.Found.{runner_found, ready_found, queued_found, unbound_found, waiter_found, sleeper_found, sleeper_below_found, due_found, age_found}
use Rattle.sd_invariants.proofs.Movers.{bind_put_is, mover_there}
use Rattle.sd_frames.proofs.PlaceTable.{Stepped, after_steps, step_needs}
use Rattle.sd_invariants.proofs.Ready.{ready_cause, reached_ready}
use Rattle.sd_statistics.specs.Follow.{OthersKeepRunning}

-- it is the place of no thread that runs on another processor than c
abbrev Apart : ℕ → Place → Type 0
Apart c p = (x : ℕ) → x ≢ c → is_running x p ≡ false

-- Places.

running_apart : (c : ℕ) (p : Place) → is_running c p ≡ true → Apart c p
running_apart c (Running d) on x other = grind (arith, nat_tests, other)
running_apart c p on x other = refl

queued_apart : (c d : ℕ) (p : Place) → is_queued d p ≡ true → Apart c p
queued_apart c d (Running e) on x other = cc
queued_apart c d p on x other = refl

ready_apart : (c d q : ℕ) (p : Place) → is_ready d q p ≡ true → Apart c p
ready_apart c d q (Running e) on x other = cc
ready_apart c d q p on x other = refl

asleep_apart : (c j : ℕ) (p : Place) → is_asleep j p ≡ true → Apart c p
asleep_apart c j (Running e) on x other = cc
asleep_apart c j p on x other = refl

below_apart : (c j : ℕ) (below : ℤ) (p : Place) → is_asleep_below j below p ≡ true → Apart c p
below_apart c j below (Running e) on x other = cc
below_apart c j below p on x other = refl

due_apart : (c d n : ℕ) (p : Place) → is_due d n p ≡ true → Apart c p
due_apart c d n (Running e) on x other = cc
due_apart c d n p on x other = refl

waiting_apart : (c l : ℕ) (side : Side) (p : Place) → is_waiting_at l side p ≡ true → Apart c p
waiting_apart c l side (Running e) on x other = cc
waiting_apart c l side p on x other = refl

put_apart : (w : Work) (n t c : ℕ) (at : Put) → Apart c (place_put w n t at)
put_apart w n t c (Cpu d) x other = refl
put_apart w n t c (OnRealTime d) x other = refl

queue_apart : (w : Work) (t : ℕ) (d : CpuId) (k : ℤ) (b : ThreadBody) (c : ℕ) → Apart c (queue_place w t d k b)
queue_apart w t d k b c x other = still (nat_le 100 (eff b) && is_none b.bound)
  where
    still : (v : Bool) → is_running x (if v then RealTime (set_of w t) k else Queued d k) ≡ false
    still true = refl
    still false = refl

-- Steps.

-- the thread that moves comes from no other processor and goes to none
record Goes (s : State) (c t : ℕ) (place : Place) : Type 0 where
  to : Apart c place
  from : Apart c (thread_of s t).place

abbrev Local : State → ℕ → Step → Type 0
Local s c Stay = ⊤
Local s c (Go t place) = Goes s c t place

runs_apart : (s : State) (c t : ℕ) → runner s c ≡ Some t → Apart c (thread_of s t).place
runs_apart s c t e = running_apart c (thread_of s t).place (runner_found s c t e).stands

put_local : (w : Work) (s : State) (n c t : ℕ) (at : Put) → Apart c (thread_of s t).place → Goes s c t (place_put w n t at)
put_local w s n c t at from = record { to = put_apart w n t c at; from = from }

put_if_local : (w : Work) (s : State) (n c t : ℕ) (at : Option Put) → Apart c (thread_of s t).place → Local s c (put_step_if w n t at)
put_if_local w s n c t None from = tt
put_if_local w s n c t (Some at) from = put_local w s n c t at from

reordered_local : (w : Work) (s : State) (n c t : ℕ) (at : Option Put) (p : Place) → (thread_of s t).place ≡ p → Local s c (reordered_step w n t at p)
reordered_local w s n c t at (Running d) is = tt
reordered_local w s n c t at p is = put_if_local w s n c t at (λ x other. ap (is_running x) is)

woken_local : (w : Work) (s : State) (n c k : ℕ) (u : Option (ThreadId × Put)) → WakesBest w s k u → Local s c (woken_step w n u)
woken_local w s n c k None is = tt
woken_local w s n c k (Some u) is = put_local w s n c u.0.0 u.1 (asleep_apart c k (thread_of s u.0.0).place (sleeper_found s k u.0.0 is.best).stands)

roused_local : (w : Work) (s : State) (n c k : ℕ) (below : ℤ) (u : Option (ThreadId × Put)) → RousesBest w s k below u → Local s c (woken_step w n u)
roused_local w s n c k below None is = tt
roused_local w s n c k below (Some u) is = put_local w s n c u.0.0 u.1 (below_apart c k below (thread_of s u.0.0).place (sleeper_below_found s k below u.0.0 is.0).stands)

aged_local : (w : Work) (s : State) (n : ℕ) (c : CpuId) (u t : ℕ) → next_to_age s c.0 u ≡ Some t → Local s c.0 (aged_step w s n c t)
aged_local w s n c u t e = elim (eff_as (aged_class w (thread_of s t).body.class) (thread_of s t).body == eff_of s t) as (λ b. Local s c.0 (if b then Stay else Go t (Queued c (back_key n)))) [
  | true ↦ tt
  | false ↦ record {
    to = λ x other. refl;
    from = queued_apart c.0 c.0 (thread_of s t).place (and_left _ (is_ts (thread_of s t).body.class) (age_found s c.0 u t e).stands);
  }
]

prio_local : (w : Work) (s : State) (n c : ℕ) (u : ThreadId) (answer : PrioAnswer) → Local s c (prio_step w s n u answer)
prio_local w s n c u (Changed p at) = reordered_local w s n c u.0 at (thread_of s u.0).place refl
prio_local w s n c u (Refused denied) = tt

bound_apart : (c : ℕ) (d : CpuId) (p : Place) (at : Put) → bound_put d p ≡ Some at → Apart c p
bound_apart c d (Running e) at is x other = cc
bound_apart c d p at is x other = refl

unbound_apart : (c n : ℕ) (b : Option CpuId) (p : Place) (at : Put) → unbound_put n b p ≡ Some at → Apart c p
unbound_apart c n (Some b) (Running e) at is x other = cc
unbound_apart c n None (Running e) at is x other = cc
unbound_apart c n b p at is x other = refl

bind_put_apart : (s : State) (c u : ℕ) (d : Option CpuId) (at : Put) → bind_put s u d ≡ Some at → Apart c (thread_of s u).place
bind_put_apart s c u (Some d) at is = bound_apart c d (thread_of s u).place at is
bind_put_apart s c u None at is = unbound_apart c (eff_of s u) (thread_of s u).body.bound (thread_of s u).place at is

bind_local : (w : Work) (s : State) (n c t u : ℕ) (d : Option CpuId) (answer : BindAnswer) → answer ≡ bind_to w s t u d → Local s c (bind_step w n u answer)
bind_local w s n c t u d (bind_answer.Changed (Some at)) is = put_local w s n c u at (bind_put_apart s c u d at (bind_put_is w s t u d (Some at) (sym is)))
bind_local w s n c t u d answer is = tt

-- from its own processor to a place where nobody runs
stops : (s : State) (c t : ℕ) (place : Place) → runner s c ≡ Some t → Apart c place → Goes s c t place
stops s c t place runs to = record { to = to; from = runs_apart s c t runs }

-- a thread that leaves the processor, or none at all
abbrev is_own : Option Stride → Bool
is_own None = true
is_own (Some (Strides t whither)) = true
is_own (Some (Falls t end)) = true
is_own (Some (Leaves t d)) = true
is_own _ = false

own_local : (w : Work) (s : State) (n : ℕ) (c : CpuId) (stride : Option Stride) → is_own stride ≡ true → ((t : ℕ) → leaver stride ≡ Some t → runner s c.0 ≡ Some t) → Local s c.0 (step_by w s n c stride)
own_local w s n c None own runs = tt
own_local w s n c (Some (Strides t ToQueue)) own runs = stops s c.0 t _ (runs t refl) (queue_apart w t c (back_key n) (thread_of s t).body c.0)
own_local w s n c (Some (Strides t whither)) own runs = stops s c.0 t _ (runs t refl) (λ x other. refl)
own_local w s n c (Some (Falls t end)) own runs = stops s c.0 t _ (runs t refl) (queue_apart w t c (key_at n end) (thread_of s t).body c.0)
own_local w s n c (Some (Leaves t d)) own runs = stops s c.0 t _ (runs t refl) (λ x other. refl)
own_local w s n c _ own runs = cc

-- the step of each event
steps_local : (w : Work) (s : State) (n : ℕ) (c : CpuId) (e : Event) → IsCause w s c.0 e → Local s c.0 (step_of w s n c e)
steps_local w s n c (Dispatch t p) cause = record {
  to = running_apart c.0 (Running c) (grind (arith, nat_tests));
  from = ready_apart c.0 c.0 (cpu_of s c.0).set.0 (thread_of s t.0).place (ready_found s c.0 t.0 cause.1).stands;
}
steps_local w s n c (Steal v t p) cause = record {
  to = running_apart c.0 (Running c) (grind (arith, nat_tests));
  from = queued_apart c.0 v.0 (thread_of s t.0).place (and_left _ (is_none (thread_of s t.0).body.bound) (unbound_found s v.0 t.0 cause.3).stands);
}
steps_local w s n c (Napend t at) cause = put_local w s n c.0 t.0 at (due_apart c.0 c.0 (cpu_of s c.0).count (thread_of s t.0).place (due_found s c.0 t.0 cause.0).stands)
steps_local w s n c (Wake t k u) cause = woken_local w s n c.0 k.0 u cause.1
steps_local w s n c (Rouse k u) cause = roused_local w s n c.0 k.0 cause.0 u cause.2
steps_local w s n c (Will l o p at) cause = reordered_local w s n c.0 o.0 at (thread_of s o.0).place refl
steps_local w s n c (Unblock l u at) cause = put_local w s n c.0 u.0 at (waiting_apart c.0 l.0 Writer (thread_of s u.0).place (waiter_found s l.0 Writer u.0 cause.1).stands)
steps_local w s n c (Grant l u at) (inl cause) = put_local w s n c.0 u.0 at (waiting_apart c.0 l.0 Writer (thread_of s u.0).place (waiter_found s l.0 Writer u.0 cause.1).stands)
steps_local w s n c (Grant l u at) (inr cause) = put_local w s n c.0 u.0 at (waiting_apart c.0 l.0 Reader (thread_of s u.0).place (waiter_found s l.0 Reader u.0 cause.1).stands)
steps_local w s n c (Age t p) cause = aged_local w s n c (cause.0).0 t.0 cause.2
steps_local w s n c (Prio t u answer) cause = prio_local w s n c.0 u answer
steps_local w s n c (SemaVWake t k u at) cause = put_local w s n c.0 u.0 at (asleep_apart c.0 k.0 (thread_of s u.0).place (sleeper_found s k.0 u.0 cause.1.best).stands)
steps_local w s n c (Move t at) cause = put_local w s n c.0 t.0 at (queued_apart c.0 c.0 (thread_of s t.0).place (queued_found s c.0 t.0 cause.1).stands)
steps_local w s n c (Bind t u d answer) cause = bind_local w s n c.0 t.0 u.0 d answer cause.1
steps_local w s n c e cause = own_local w s n c (stride_of e) refl (leaver_runs w s c.0 e cause)

-- The states before and after.

kept_by : (step : Step) (s r : State) (c : ℕ) → Stepped step s r → Local s c step → (t d : ℕ) → d ≢ c → is_running d (thread_of r t).place ≡ is_running d (thread_of s t).place
kept_by Stay s r c same local t d other = ap (is_running d) (same t)
kept_by (Go m place) s r c put goes t d other = elim (put_cases m place _ _ put t) [
  | inl here ↦ ap (is_running d) here.1 ∙ goes.to d other ∙ sym (ap (λ u. is_running d (thread_of s u).place) here.0 ∙ goes.from d other)
  | inr there ↦ ap (is_running d) there.1
]

pub others_keep : (w : Work) (s : State) (n : ℕ) (c : CpuId) (e : Event) → IsReady w s → IsCause w s c.0 e
    → (t d : ℕ) → d ≢ c.0 → is_running d (thread_of (after w s n c e) t).place ≡ is_running d (thread_of s t).place
others_keep w s n c e ready cause =
    kept_by (step_of w s n c e) s (after w s n c e) c.0
    (after_steps w s n c e (step_needs w s c.0 e cause) (mover_there w s n c e ready.fits ready.agreed cause)) (steps_local w s n c e cause)

pub others_law : OthersKeepRunning
others_law w n s c hints e reached makes =
    let ready = reached_ready w n s reached in
    others_keep w s n c e ready (ready_cause w s c hints e ready makes)
