-- The tick at which a nap ends has 32 bits, in every state of every run.
use Rattle.std.proofs.Common.{ℕ, zero, suc, ◌+◌, ◌<◌, ◌^◌, ◌==◌, Bool, true, false, ◌&&◌, List, [], ◌∷◌, get_or, Option, Some, None, is_none, sym, subst, inl, inr}
use Rattle.std.specs.Prelude.{⊤, if◌then◌else◌, nat_le, ℤ, pos}
use Rattle.sd_types.specs.declared.numbers.CpuId.{CpuId}
use Rattle.sd_types.specs.declared.numbers.ThreadId.{ThreadId}
use Rattle.sd_types.specs.declared.bodies.ThreadBody.{ThreadBody}
use Rattle.sd_types.specs.declared.events.BindAnswer.{BindAnswer}
use Rattle.sd_types.specs.declared.events.BindAnswer.TheVariants as bind_answer
use Rattle.sd_types.specs.declared.events.Event.{Event}
use Rattle.sd_types.specs.declared.events.Event.TheVariants.{Preempt, Yield, Nap, Napend, Wake, Rouse, Will, Unblock, Grant, Age, Prio, SemaVWake, Move, Bind}
use Rattle.sd_types.specs.declared.events.PrioAnswer.{PrioAnswer}
use Rattle.sd_types.specs.declared.events.PrioAnswer.TheVariants.{Changed, Refused}
use Rattle.sd_types.specs.declared.events.Put.{Put}
use Rattle.sd_types.specs.declared.events.Put.TheVariants.{Cpu, RealTime as OnRealTime}
use Rattle.sd_types.specs.declared.works.ThreadDecl.{ThreadDecl}
use Rattle.sd_types.specs.declared.works.Work.{Work}
use Rattle.sd_types.specs.Priorities.{eff, eff_as}
use Rattle.sd_machine.proofs.Moves.{put_cases}
use Rattle.sd_state.specs.declared.states.Place.{Place}
use Rattle.sd_state.specs.declared.states.Place.TheVariants.{Running, Queued, RealTime, Napping}
use Rattle.sd_state.specs.declared.states.State.{State}
use Rattle.sd_state.specs.States.{no_thread, thread_of, set_of, eff_of}
use Rattle.sd_state.specs.Opening.{is_urgent, first_cpu, first_thread, opening}
use Rattle.sd_state.proofs.Declared.{opening_each}
use Rattle.sd_machine.specs.Bodies.{aged_class}
use Rattle.sd_machine.specs.Changes.{back_key, key_at, place_put, queue_place}
use Rattle.sd_machine.specs.Events.{after}
use Rattle.sd_frames.specs.Causes.{IsCause}
use Rattle.sd_invariants.specs.Laws.{HoldsWhenReached}
use Rattle.sd_frames.specs.Moves.{Step, put_step_if, woken_step, reordered_step, aged_step, prio_step, bind_step, step_of}
use Rattle.sd_frames.specs.Moves.Step.{Stay, Go}
use Rattle.sd_invariants.proofs.Movers.{mover_there}
use Rattle.sd_frames.proofs.PlaceTable.{Stepped, after_steps, step_needs}
use Rattle.sd_invariants.proofs.Whole.{IsWhole, naps, reached_whole}
use Rattle.sd_invariants.proofs.Induction.{held_reached}

abbrev pub NapFits : Place → Type 0
NapFits (Napping c due) = due < 2 ^ 32
NapFits _ = ⊤

abbrev pub NapsFit : Work → State → Type 0
NapsFit w s = (t : ℕ) → NapFits (thread_of s t).place

-- Where each event moves a thread.

abbrev StepFits : Step → Type 0
StepFits Stay = ⊤
StepFits (Go t place) = NapFits place

put_fits : (w : Work) (n t : ℕ) (at : Put) → NapFits (place_put w n t at)
put_fits w n t (Cpu x) = tt
put_fits w n t (OnRealTime x) = tt

put_if_fits : (w : Work) (n t : ℕ) (at : Option Put) → StepFits (put_step_if w n t at)
put_if_fits w n t None = tt
put_if_fits w n t (Some at) = put_fits w n t at

queue_fits : (w : Work) (t : ℕ) (c : CpuId) (key : ℤ) (b : ThreadBody) → NapFits (queue_place w t c key b)
queue_fits w t c key b = elim (nat_le 100 (eff b) && is_none b.bound) as (λ v. NapFits (if v then RealTime (set_of w t) key else Queued c key)) [ true ↦ tt | false ↦ tt ]

woken_fits : (w : Work) (n : ℕ) (u : Option (ThreadId × Put)) → StepFits (woken_step w n u)
woken_fits w n None = tt
woken_fits w n (Some u) = put_fits w n u.0.0 u.1

reordered_fits : (w : Work) (n t : ℕ) (at : Option Put) (place : Place) → StepFits (reordered_step w n t at place)
reordered_fits w n t at (Running x) = tt
reordered_fits w n t at place = put_if_fits w n t at

aged_fits : (w : Work) (s : State) (n : ℕ) (c : CpuId) (t : ℕ) → StepFits (aged_step w s n c t)
aged_fits w s n c t = elim (eff_as (aged_class w (thread_of s t).body.class) (thread_of s t).body == eff_of s t) as (λ b. StepFits (if b then Stay else Go t (Queued c (back_key n)))) [ true ↦ tt | false ↦ tt ]

prio_fits : (w : Work) (s : State) (n : ℕ) (u : ThreadId) (answer : PrioAnswer) → StepFits (prio_step w s n u answer)
prio_fits w s n u (Changed p at) = reordered_fits w n u.0 at (thread_of s u.0).place
prio_fits w s n u (Refused denied) = tt

bind_fits : (w : Work) (n u : ℕ) (answer : BindAnswer) → StepFits (bind_step w n u answer)
bind_fits w n u (bind_answer.Changed at) = put_if_fits w n u at
bind_fits w n u bind_answer.ESRCH = tt
bind_fits w n u bind_answer.EINVAL = tt
bind_fits w n u bind_answer.EPERM = tt
bind_fits w n u bind_answer.EBUSY = tt

step_fits : (w : Work) (s : State) (n : ℕ) (c : CpuId) (e : Event) → IsWhole w s → IsCause w s c.0 e → StepFits (step_of w s n c e)
step_fits w s n c (Nap t) whole cause = naps w s whole c t cause.0 cause.1
step_fits w s n c (Preempt t end) whole cause = queue_fits w t.0 c (key_at n end) (thread_of s t.0).body
step_fits w s n c (Yield t) whole cause = queue_fits w t.0 c (back_key n) (thread_of s t.0).body
step_fits w s n c (Napend t at) whole cause = put_fits w n t.0 at
step_fits w s n c (Wake t k u) whole cause = woken_fits w n u
step_fits w s n c (Rouse k u) whole cause = woken_fits w n u
step_fits w s n c (Will l o p at) whole cause = reordered_fits w n o.0 at (thread_of s o.0).place
step_fits w s n c (Unblock l u at) whole cause = put_fits w n u.0 at
step_fits w s n c (Grant l u at) whole cause = put_fits w n u.0 at
step_fits w s n c (Age t p) whole cause = aged_fits w s n c t.0
step_fits w s n c (Prio t u answer) whole cause = prio_fits w s n u answer
step_fits w s n c (SemaVWake t k u at) whole cause = put_fits w n u.0 at
step_fits w s n c (Move t at) whole cause = put_fits w n t.0 at
step_fits w s n c (Bind t u d answer) whole cause = bind_fits w n u.0 answer
step_fits w s n c _ whole cause = tt

stepped_fits : (w : Work) (s r : State) (step : Step) → Stepped step s r → StepFits step → NapsFit w s → NapsFit w r
stepped_fits w s r Stay same fits all t = subst NapFits (sym (same t)) (all t)
stepped_fits w s r (Go u place) put fits all t = elim (put_cases u place _ _ put t) [
  | inl me ↦ subst NapFits (sym me.1) fits
  | inr other ↦ subst NapFits (sym other.1) (all t)
]

-- The initial state.

first_fits : (w : Work) (t : ℕ) (d : ThreadDecl) → NapFits (first_thread w t d).place
unfolding first_thread
first_fits w t d = by (is_urgent d)
  where
    by : (v : Bool) → NapFits (if v then RealTime d.set (pos t) else Queued (first_cpu w t d) (pos t))
    by true = tt
    by false = tt

opening_fits : (w : Work) → NapsFit w (opening w)
opening_fits w t = opening_each w t (λ x. NapFits x.place) tt (λ d is. first_fits w t d)

pub naps_fit : HoldsWhenReached NapsFit
naps_fit = held_reached NapsFit (record {
  start = opening_fits;
  step = λ w s n c e reached here cause all.
      let whole = reached_whole w n s reached in
      stepped_fits w s (after w s n c e) (step_of w s n c e) (after_steps w s n c e (step_needs w s c.0 e cause) (mover_there w s n c e whole.ready.fits whole.ready.agreed cause)) (step_fits w s n c e whole cause) all;
})
