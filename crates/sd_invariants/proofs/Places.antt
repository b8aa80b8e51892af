-- A thread that is made runnable goes to a processor that is there, and the place of each thread is there.
use Rattle.std.proofs.Common.{ℕ, zero, suc, ◌<◌, ◌≤◌, ◌%◌, Bool, true, false, ◌&&◌, ◌||◌, [], ◌∷◌, length, get_or, ◌≡◌, Option, Some, None, is_none, refl, sym, subst, inl, inr, arith}
use Rattle.std.specs.Prelude.{⊤, if◌then◌else◌, nat_lt, nat_le, ◌==◌, IfSome, ℤ, pos}
use Rattle.std.specs.List.{Contains}
use Rattle.std.proofs.Math.Nat.{mod-lt}
use Rattle.std.proofs.lemmas.List.{get_or_default}
use Rattle.std.proofs.lemmas.Option.{same_Some}
use Rattle.sd_types.specs.declared.numbers.ChanId.{ChanId}
use Rattle.sd_types.specs.declared.numbers.CpuId.{CpuId}
use Rattle.sd_types.specs.declared.numbers.ThreadId.{ThreadId}
use Rattle.sd_types.specs.declared.bodies.ThreadBody.{ThreadBody}
use Rattle.sd_types.specs.declared.events.BindAnswer.{BindAnswer}
use Rattle.sd_types.specs.declared.events.BindAnswer.TheVariants as bind_answer
use Rattle.sd_types.specs.declared.events.Event.{Event}
use Rattle.sd_types.specs.declared.events.Event.TheVariants.{Napend, Wake, Rouse, Block, Will, Unblock, Grant, Age, Prio, SemaVWake, Move, Bind, Away}
use Rattle.sd_types.specs.declared.events.PrioAnswer.{PrioAnswer}
use Rattle.sd_types.specs.declared.events.PrioAnswer.TheVariants.{Changed, Refused}
use Rattle.sd_types.specs.declared.events.Put.{Put}
use Rattle.sd_types.specs.declared.events.Put.TheVariants.{Cpu, RealTime as OnRealTime}
use Rattle.sd_types.specs.declared.scripts.Op.TheVariants as op
use Rattle.sd_types.specs.declared.scripts.Request.{Request}
use Rattle.sd_types.specs.declared.works.ThreadDecl.{ThreadDecl}
use Rattle.sd_types.specs.declared.works.Work.{Work}
use Rattle.sd_types.specs.Partitions.{cpus_of_set}
use Rattle.sd_types.specs.Priorities.{eff, eff_as}
use Rattle.sd_rules.proofs.PartitionLemmas.{some_cpu, in_no_other, names-from_Contains}
use Rattle.sd_machine.proofs.Moves.{put_cases}
use Rattle.sd_state.specs.Invariants.{IsPlaceThere}
use Rattle.sd_state.specs.declared.states.Place.{Place}
use Rattle.sd_state.specs.declared.states.Place.TheVariants.{Running, Queued, RealTime}
use Rattle.sd_state.specs.declared.states.State.{State}
use Rattle.sd_state.specs.States.{thread_of, set_of, eff_of}
use Rattle.sd_state.specs.Opening.{dealt_cpu, dealt_before, is_urgent, first_cpu, first_thread, opening}
use Rattle.sd_machine.specs.declared.plans.Requeue.TheVariants.{Stays, Behind, Anew}
use Rattle.sd_machine.specs.Threads.{open_of}
use Rattle.sd_machine.specs.Bodies.{aged_class}
use Rattle.sd_machine.specs.Changes.{back_key, key_at, queue_place, place_put, cpu_put}
use Rattle.sd_machine.specs.Choosing.{cpus_or_bound, cpus_for}
use Rattle.sd_machine.specs.Requeueing.{is_bound_to, requeue}
use Rattle.sd_machine.specs.SetChanges.{bound_put, unbound_put, bind_put, bind_to}
use Rattle.sd_machine.specs.Events.{after}
use Rattle.sd_frames.specs.Causes.{IsPut, IsRequeuedAt, WakesBest, RousesBest, IsAnswered, IsCause}
use Rattle.sd_invariants.specs.Laws.{HoldsWhenReached, OpenHold}
use Rattle.sd_frames.specs.Moves.{Step, put_step_if, woken_step, reordered_step, aged_step, prio_step, bind_step, step_of, Stride, Comes, Falls, Goes, stride_of, step_by}
use Rattle.sd_machine.specs.Deeds.{ToQueue, ToSleep, ToWait, ToNap, ToEnd}
use Rattle.sd_frames.proofs.Leavers.{acts_of, sleeper_works, sleeper_names}
use Rattle.sd_frames.specs.Moves.Step.{Stay, Go}
use Rattle.sd_invariants.proofs.Movers.{bind_put_is, mover_there}
use Rattle.sd_frames.proofs.PlaceTable.{Stepped, after_steps, step_needs}
use Rattle.sd_invariants.proofs.Whole.{reached_whole}
use Rattle.sd_state.proofs.Declared.{decl_set_there, opening_each}
use Rattle.sd_invariants.specs.There.{IsBoundThere, SetsAreOpen, ThreadsHaveCpus}
use Rattle.sd_invariants.proofs.Induction.{held_reached}
use Rattle.sd_invariants.proofs.Named.{acts_named, named_chan, bind_cpu, wants_lock, set_of_there}
use Rattle.sd_invariants.proofs.Sets.{sets_are_open}
use Rattle.sd_invariants.proofs.Bindings.{BoundsAreThere, bounds_are_there}

abbrev pub PlacesAreThere : Work → State → Type 0
PlacesAreThere w s = (t : ℕ) → IsPlaceThere w (thread_of s t).place

-- where there is a put, its processor is there
abbrev pub IsPutInside : Work → Option Put → Type 0
IsPutInside w at = IfSome at (λ p. (cpu_put p).0 < w.cpus)

-- Places of one step.

abbrev StepThere : Work → Step → Type 0
StepThere w Stay = ⊤
StepThere w (Go t place) = IsPlaceThere w place

place_put_there : (w : Work) (n t : ℕ) (at : Put) → (cpu_put at).0 < w.cpus → IsPlaceThere w (place_put w n t at)
place_put_there w n t (Cpu x) there = there
place_put_there w n t (OnRealTime x) there = set_of_there w t

put_if_there : (w : Work) (n t : ℕ) (at : Option Put) → IsPutInside w at → StepThere w (put_step_if w n t at)
put_if_there w n t None there = tt
put_if_there w n t (Some at) there = place_put_there w n t at there

queue_there : (w : Work) (t : ℕ) (c : CpuId) (key : ℤ) (b : ThreadBody) → c.0 < w.cpus → IsPlaceThere w (queue_place w t c key b)
queue_there w t c key b here = elim (nat_le 100 (eff b) && is_none b.bound) as (λ v. IsPlaceThere w (if v then RealTime (set_of w t) key else Queued c key)) [ true ↦ set_of_there w t | false ↦ here ]

woken_there : (w : Work) (n : ℕ) (u : Option (ThreadId × Put)) → IfSome u (λ x. (cpu_put x.1).0 < w.cpus) → StepThere w (woken_step w n u)
woken_there w n None there = tt
woken_there w n (Some u) there = place_put_there w n u.0.0 u.1 there

reordered_there : (w : Work) (n t : ℕ) (at : Option Put) (place : Place) → IsPutInside w at → StepThere w (reordered_step w n t at place)
reordered_there w n t at (Running x) there = tt
reordered_there w n t at place there = put_if_there w n t at there

-- Requeueing on the queue of the same processor.

same_queue : (a b : Bool) (c d : CpuId) → (if a then Stays else if b then Behind c else Anew) ≡ Behind d → c ≡ d
same_queue true b c d e = cc
same_queue false true c d e = cc
same_queue false false c d e = cc

pub never_anew : (a : Bool) (d : CpuId) → (if a then Stays else Anew) ≡ Behind d → ⊥
never_anew true d e = cc
never_anew false d e = cc

pub never_stays : (a : Bool) (d : CpuId) → (if a then Stays else Stays) ≡ Behind d → ⊥
never_stays true d e = cc
never_stays false d e = cc

behind_there : (w : Work) (place : Place) (old new : ℕ) (bound : Option CpuId) (d : CpuId) → IsPlaceThere w place → requeue place old new bound ≡ Behind d → d.0 < w.cpus
behind_there w (Queued c k) old new bound d there e = subst (λ (x : CpuId). x.0 < w.cpus) (same_queue (old == new) (nat_lt new 100 || is_bound_to c bound) c d e) there
behind_there w (RealTime q k) old new bound d there e = absurd (never_anew (old == new) d e)
behind_there w place old new bound d there e = absurd (never_stays (old == new) d e)

-- Bindings.

none_put : (at : Put) → None ≡ Some at → ⊥
none_put at e = cc

bound_there : (w : Work) (d : CpuId) (place : Place) (at : Put) → d.0 < w.cpus → bound_put d place ≡ Some at → (cpu_put at).0 < w.cpus
bound_there w d (Queued c k) at there e = by (c.0 == d.0) e
  where
    by : (b : Bool) → (if b then None else Some (Cpu d)) ≡ Some at → (cpu_put at).0 < w.cpus
    by true is = absurd (none_put at is)
    by false is = subst (λ p. (cpu_put p).0 < w.cpus) (same_Some (Cpu d) at is) there
bound_there w d (RealTime q k) at there e = subst (λ p. (cpu_put p).0 < w.cpus) (same_Some (Cpu d) at e) there
bound_there w d place at there e = absurd (none_put at e)

unbound_there : (w : Work) (p : ℕ) (bound : Option CpuId) (place : Place) (at : Put) → IsBoundThere w bound → unbound_put p bound place ≡ Some at → (cpu_put at).0 < w.cpus
unbound_there w p (Some b) (Queued c k) at there e = by (nat_le 100 p) e
  where
    by : (v : Bool) → (if v then Some (OnRealTime b) else None) ≡ Some at → (cpu_put at).0 < w.cpus
    by true is = subst (λ q. (cpu_put q).0 < w.cpus) (same_Some (OnRealTime b) at is) there
    by false is = absurd (none_put at is)
unbound_there w p None (Queued c k) at there e = absurd (none_put at e)
unbound_there w p bound place at there e = absurd (none_put at e)

-- the only item of a list
pub only_item : (d x : CpuId) → Contains (d ∷ []) x → d ≡ x
only_item d x (zero, inside, is) = is
only_item d x (suc k, inside, is) = absurd (omega (arith, inside))

-- What is there in a state of a run.

pub record IsInside (w : Work) (s : State) : Type 0 where
  pub opened : OpenHold w s
  pub some : SetsAreOpen w s
  pub bounds : BoundsAreThere w s
  pub places : PlacesAreThere w s

module _ (w : Work) (s : State) (is : IsInside w s) where
  pub cpus_there : (t : ℕ) (x : CpuId) → Contains (cpus_for w s t) x → x.0 < w.cpus
  unfolding cpus_for
  cpus_there t x has = by (thread_of s t).body.bound (is.bounds t) has
    where
      by : (b : Option CpuId) → IsBoundThere w b → Contains (cpus_or_bound (open_of s (set_of w t).0) b) x → x.0 < w.cpus
      by None there among = (is.opened.member (set_of w t).0 x.0 (names-from_Contains x (open_of s (set_of w t).0) among)).0
      by (Some d) there among = subst (λ (y : CpuId). y.0 < w.cpus) (only_item d x among) there

  pub cpus_some : (t : ℕ) → 0 < length (cpus_for w s t)
  unfolding cpus_for
  cpus_some t = by (thread_of s t).body.bound
    where
      by : (b : Option CpuId) → 0 < length (cpus_or_bound (open_of s (set_of w t).0) b)
      by None = is.some (set_of w t).0 (set_of_there w t)
      by (Some d) = omega arith

  pub put_inside : (t p : ℕ) (at : Put) → IsPut w s t p at → (cpu_put at).0 < w.cpus
  put_inside t p at put = cpus_there t (cpu_put at) (put.chosen (cpus_some t))

  pub requeued_inside : (t p : ℕ) (at : Option Put) → IsRequeuedAt w s t p at → IsPutInside w at
  requeued_inside t p None e = tt
  requeued_inside t p (Some at) (inl (d, e, goes)) = subst (λ q. (cpu_put q).0 < w.cpus) (sym goes) (behind_there w (thread_of s t).place (eff_of s t) p (thread_of s t).body.bound d (is.places t) e)
  requeued_inside t p (Some at) (inr (e, put)) = put_inside t p at put

  pub wakes_inside : (k : ℕ) (u : Option (ThreadId × Put)) → WakesBest w s k u → IfSome u (λ x. (cpu_put x.1).0 < w.cpus)
  wakes_inside k None wakes = tt
  wakes_inside k (Some u) wakes = put_inside u.0.0 _ u.1 wakes.put

  pub rouses_inside : (k : ℕ) (below : ℤ) (u : Option (ThreadId × Put)) → RousesBest w s k below u → IfSome u (λ x. (cpu_put x.1).0 < w.cpus)
  rouses_inside k below None rouses = tt
  rouses_inside k below (Some u) rouses = put_inside u.0.0 _ u.1 rouses.1

  abbrev pub IsPrioInside : PrioAnswer → Type 0
  IsPrioInside (Changed p at) = IsPutInside w at
  IsPrioInside (Refused denied) = ⊤

  pub answered_inside : (c t : ℕ) (u : ThreadId) (r : Request) (answer : PrioAnswer) → IsAnswered w s c t u.0 r answer → IsPrioInside answer
  answered_inside c t u r (Changed p at) answered = requeued_inside u.0 p at answered.3
  answered_inside c t u r (Refused denied) answered = tt

  abbrev pub IsBindInside : BindAnswer → Type 0
  IsBindInside (bind_answer.Changed at) = IsPutInside w at
  IsBindInside _ = ⊤

  binding_inside : (u : ℕ) (d : Option CpuId) (at : Put) → IsBoundThere w d → bind_put s u d ≡ Some at → (cpu_put at).0 < w.cpus
  binding_inside u (Some d) at there e = bound_there w d (thread_of s u).place at there e
  binding_inside u None at there e = unbound_there w (eff_of s u) (thread_of s u).body.bound (thread_of s u).place at (is.bounds u) e

  pub bind_inside : (t u : ℕ) (d : Option CpuId) (answer : BindAnswer) → IsBoundThere w d → answer ≡ bind_to w s t u d → IsBindInside answer
  bind_inside t u d (bind_answer.Changed (Some at)) there e = binding_inside u d at there (bind_put_is w s t u d (Some at) (sym e))
  bind_inside t u d answer there e = tt

  -- Where each event moves a thread.

  module _ (n : ℕ) (c : CpuId) (here : c.0 < w.cpus) where
    aged_there : (t : ℕ) → StepThere w (aged_step w s n c t)
    aged_there t = elim (eff_as (aged_class w (thread_of s t).body.class) (thread_of s t).body == eff_of s t) as (λ b. StepThere w (if b then Stay else Go t (Queued c (back_key n)))) [ true ↦ tt | false ↦ here ]

    prio_there : (u : ThreadId) (answer : PrioAnswer) → IsPrioInside answer → StepThere w (prio_step w s n u answer)
    prio_there u (Changed p at) there = reordered_there w n u.0 at (thread_of s u.0).place there
    prio_there u (Refused denied) there = tt

    bound_step_there : (u : ℕ) (answer : BindAnswer) → IsBindInside answer → StepThere w (bind_step w n u answer)
    bound_step_there u (bind_answer.Changed at) there = put_if_there w n u at there
    bound_step_there u bind_answer.ESRCH there = tt
    bound_step_there u bind_answer.EINVAL there = tt
    bound_step_there u bind_answer.EPERM there = tt
    bound_step_there u bind_answer.EBUSY there = tt

    -- a thread that comes to the processor, or leaves it and waits for no lock; or none at all
    abbrev is_own : Option Stride → Bool
    is_own None = true
    is_own (Some (Comes t)) = true
    is_own (Some (Falls t end)) = true
    is_own (Some (Goes t (ToWait l))) = false
    is_own (Some (Goes t whither)) = true
    is_own _ = false

    own_there : (stride : Option Stride) → is_own stride ≡ true → ((t : ℕ) (k : ChanId) → stride ≡ Some (Goes t (ToSleep k)) → k.0 < length w.chans) → StepThere w (step_by w s n c stride)
    own_there None own sleeps = tt
    own_there (Some (Comes t)) own sleeps = here
    own_there (Some (Falls t end)) own sleeps = queue_there w t c (key_at n end) (thread_of s t).body here
    own_there (Some (Goes t ToQueue)) own sleeps = queue_there w t c (back_key n) (thread_of s t).body here
    own_there (Some (Goes t (ToSleep k))) own sleeps = sleeps t k refl
    own_there (Some (Goes t ToNap)) own sleeps = here
    own_there (Some (Goes t ToEnd)) own sleeps = tt
    own_there _ own sleeps = cc

    -- the channel is there on which a thread falls asleep
    sleeper_there : (e : Event) (t : ℕ) (k : ChanId) → stride_of e ≡ Some (Goes t (ToSleep k)) → IsCause w s c.0 e → k.0 < length w.chans
    sleeper_there e t k is cause =
        let at = acts_of w s c.0 e cause t (sleeper_works e t k is) in
        named_chan w at.by k (acts_named w s c.0 t at.by at.acts) (sleeper_names e t k at.by is at.names)

    step_there : (e : Event) → IsCause w s c.0 e → StepThere w (step_of w s n c e)
    step_there (Away t d) cause = subst (λ o. IsBoundThere w o) cause.1 (is.bounds t.0)
    step_there (Napend t at) cause = place_put_there w n t.0 at (put_inside t.0 _ at cause.1)
    step_there (Wake t k u) cause = woken_there w n u (wakes_inside k.0 u cause.1)
    step_there (Rouse k u) cause = woken_there w n u (rouses_inside k.0 cause.0 u cause.2)
    step_there (Block t l) cause = wants_lock w s c.0 t.0 l cause.0 cause.1
    step_there (Will l o p at) cause = reordered_there w n o.0 at (thread_of s o.0).place (requeued_inside o.0 p at cause.3)
    step_there (Unblock l u at) cause = place_put_there w n u.0 at (put_inside u.0 _ at cause.2)
    step_there (Grant l u at) (inl cause) = place_put_there w n u.0 at (put_inside u.0 _ at cause.2)
    step_there (Grant l u at) (inr cause) = place_put_there w n u.0 at (put_inside u.0 _ at cause.2)
    step_there (Age t p) cause = aged_there t.0
    step_there (Prio t u answer) cause = prio_there u answer (answered_inside c.0 t.0 u cause.0 answer cause.2)
    step_there (SemaVWake t k u at) cause = place_put_there w n u.0 at (put_inside u.0 _ at cause.1.put)
    step_there (Move t at) cause = place_put_there w n t.0 at (put_inside t.0 _ at cause.2)
    step_there (Bind t u d answer) cause = bound_step_there u.0 answer (bind_inside t.0 u.0 d answer (bind_cpu w u d (acts_named w s c.0 t.0 (op.Pbind u d) cause.0)) cause.1)
    step_there e cause = own_there (stride_of e) refl (λ t k is. sleeper_there e t k is cause)

stepped_there : (w : Work) (s r : State) (step : Step) → Stepped step s r → StepThere w step → PlacesAreThere w s → PlacesAreThere w r
stepped_there w s r Stay same there places t = subst (λ p. IsPlaceThere w p) (sym (same t)) (places t)
stepped_there w s r (Go u place) put there places t = elim (put_cases u place _ _ put t) [
  | inl me ↦ subst (λ p. IsPlaceThere w p) (sym me.1) there
  | inr other ↦ subst (λ p. IsPlaceThere w p) (sym other.1) (places t)
]

-- The initial state.

pub first_cpu_there : (w : Work) (d : ThreadDecl) (k : ℕ) → d.set.0 ≤ length w.sets → (dealt_cpu (cpus_of_set w d.set.0) k).0 < w.cpus
first_cpu_there w d k there =
    let some = some_cpu w d.set.0 there in
    let cpus = cpus_of_set w d.set.0 in
    let inside = mod-lt k some in
    let none : CpuId = record { 0 = 0 } in
    let one = get_or cpus (k % length cpus) none in
    (in_no_other w one d.set.0 (k % length cpus, inside, get_or_default cpus (k % length cpus) one none inside)).0

first_there : (w : Work) (t : ℕ) (d : ThreadDecl) → d.set.0 ≤ length w.sets → IsPlaceThere w (first_thread w t d).place
unfolding first_thread first_cpu
first_there w t d there = by (is_urgent d)
  where
    by : (v : Bool) → IsPlaceThere w (if v then RealTime d.set (pos t) else Queued (dealt_cpu (cpus_of_set w d.set.0) (if v then 0 else dealt_before w d.set.0 t)) (pos t))
    by true = there
    by false = first_cpu_there w d (dealt_before w d.set.0 t) there

opening_there : (w : Work) → PlacesAreThere w (opening w)
opening_there w t = opening_each w t (λ x. IsPlaceThere w x.place) tt (λ d is. first_there w t d (decl_set_there w t d is))

pub places_are_there : HoldsWhenReached PlacesAreThere
places_are_there = held_reached PlacesAreThere (record {
  start = opening_there;
  step = λ w s n c e reached here cause places.
      let whole = reached_whole w n s reached in
      let is : IsInside w s = record { opened = whole.opened; some = sets_are_open w n s reached; bounds = bounds_are_there w n s reached; places = places } in
      stepped_there w s (after w s n c e) (step_of w s n c e) (after_steps w s n c e (step_needs w s c.0 e cause) (mover_there w s n c e whole.ready.fits whole.ready.agreed cause)) (step_there w s is n c here e cause) places;
})

pub inside_reached : HoldsWhenReached IsInside
inside_reached w n s reached = record {
  opened = (reached_whole w n s reached).opened;
  some = sets_are_open w n s reached;
  bounds = bounds_are_there w n s reached;
  places = places_are_there w n s reached;
}

pub threads_have_cpus : HoldsWhenReached ThreadsHaveCpus
threads_have_cpus w n s reached t = let is = inside_reached w n s reached in record { some = cpus_some w s is t; there = λ d has. cpus_there w s is t d has }
