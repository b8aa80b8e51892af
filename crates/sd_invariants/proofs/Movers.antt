-- The thread that an event moves is there; and unless the event ends its wait, it waits for no lock.
use Rattle.std.proofs.Common.{◌≡◌, ◌≢◌, ℕ, ◌<◌, Bool, true, false, not, ◌&&◌, length, Option, Some, None, refl, sym, ap, ◌∙◌, arith, inl, inr}
use Rattle.std.specs.Prelude.{⊤, nat_lt, ◌==◌, if◌then◌else◌, is_none, ℤ}
use Rattle.std.proofs.lemmas.Bool.Decides.{nat_tests}
use Rattle.sd_basics.proofs.Truths.{and_left}
use Rattle.sd_types.specs.declared.numbers.CpuId.{CpuId}
use Rattle.sd_types.specs.declared.numbers.LockId.{LockId}
use Rattle.sd_types.specs.declared.numbers.ThreadId.{ThreadId}
use Rattle.sd_types.specs.declared.numbers.Side.TheVariants.{Writer, Reader}
use Rattle.sd_types.specs.declared.events.BindAnswer.{BindAnswer}
use Rattle.sd_types.specs.declared.events.BindAnswer.TheVariants as bind_answer
use Rattle.sd_types.specs.declared.events.Event.{Event}
use Rattle.sd_types.specs.declared.events.Event.TheVariants.{Tick, Spin, Idle, Dispatch, Steal, Napend, Wake, Rouse, Will, Unblock, Grant, Age, Prio, SemaVWake, Move, Bind}
use Rattle.sd_types.specs.declared.events.PrioAnswer.{PrioAnswer}
use Rattle.sd_types.specs.declared.events.PrioAnswer.TheVariants.{Changed, Refused}
use Rattle.sd_types.specs.declared.events.Put.{Put}
use Rattle.sd_types.specs.declared.scripts.Op.{Op}
use Rattle.sd_types.specs.declared.scripts.Op.TheVariants as op
use Rattle.sd_types.specs.declared.scripts.Request.{Request}
use Rattle.sd_types.specs.declared.works.Work.{Work}
use Rattle.sd_types.specs.Works.{op_names, request_fits, bound_fits}
use Rattle.sd_types.specs.Priorities.{eff_as}
use Rattle.sd_machine.specs.declared.plans.Requeue.{Requeue}
use Rattle.sd_machine.specs.declared.plans.Requeue.TheVariants.{Stays, Behind, Anew}
use Rattle.sd_state.specs.declared.states.Place.{Place}
use Rattle.sd_state.specs.declared.states.Place.TheVariants.{Running, Queued, Waiting}
use Rattle.sd_state.specs.declared.states.LockState.TheVariants.{Owned}
use Rattle.sd_state.specs.declared.states.State.{State}
use Rattle.sd_state.specs.States.{thread_of, cpu_of, is_queued, is_ready, eff_of}
use Rattle.sd_machine.specs.Shapes.{FitsFully}
use Rattle.sd_machine.specs.Changes.{back_key}
use Rattle.sd_machine.specs.Threads.{lock_of, runner, next_to_age, is_ts, is_asleep, is_asleep_below, is_due, has_ended}
use Rattle.sd_machine.specs.Bodies.{aged_class}
use Rattle.sd_machine.specs.Prioritising.{is_privileged, uid_of}
use Rattle.sd_machine.specs.Requeueing.{requeue}
use Rattle.sd_machine.specs.SetChanges.{bound_put, unbound_put, bind_put, bind_to, is_misbound, is_closing}
use Rattle.sd_machine.proofs.PlaceLemmas.{is_waiter}
use Rattle.sd_frames.specs.Causes.{Acts, WakesBest, RousesBest, IsRequeuedAt, IsAnswered, IsCause}
use Rattle.sd_invariants.specs.Holding.{lock_state, Agreed}
use Rattle.sd_frames.specs.Moves.{Step, put_step_if, woken_step, reordered_step, aged_step, prio_step, bind_step, step_of, Stride, Goes, Falls, Leaves, leaver, stride_of, step_by}
use Rattle.sd_frames.proofs.Leavers.{leaver_runs}
use Rattle.sd_frames.specs.Moves.Step.{Stay, Go}
use Rattle.sd_frames.proofs.Found.{runner_found, ready_found, queued_found, unbound_found, waiter_found, sleeper_found, sleeper_below_found, due_found, age_found}
use Rattle.sd_frames.proofs.PlaceTable.{IsMoverThere}
use Rattle.sd_invariants.proofs.ScriptLemmas.{runs_no_waiter}
use Rattle.sd_state.proofs.Declared.{declared}
use Rattle.sd_invariants.proofs.Works.{op_named}

-- the thread is there and waits for no lock
pub record IsMover (s : State) (t : ℕ) : Type 0 where
  pub inside : t < length s.threads
  pub away : is_waiter (thread_of s t).place ≡ false

abbrev pub MoverIs : State → Step → Type 0
MoverIs s Stay = ⊤
MoverIs s (Go t place) = IsMover s t

-- Places where no thread waits for a lock.

pub queued_away : (c : ℕ) (p : Place) → is_queued c p ≡ true → is_waiter p ≡ false
queued_away c (Waiting l side k) e = cc
queued_away c p e = refl

ready_away : (c q : ℕ) (p : Place) → is_ready c q p ≡ true → is_waiter p ≡ false
ready_away c q (Waiting l side k) e = cc
ready_away c q p e = refl

asleep_away : (j : ℕ) (p : Place) → is_asleep j p ≡ true → is_waiter p ≡ false
asleep_away j (Waiting l side k) e = cc
asleep_away j p e = refl

below_away : (j : ℕ) (below : ℤ) (p : Place) → is_asleep_below j below p ≡ true → is_waiter p ≡ false
below_away j below (Waiting l side k) e = cc
below_away j below p e = refl

due_away : (c n : ℕ) (p : Place) → is_due c n p ≡ true → is_waiter p ≡ false
due_away c n (Waiting l side k) e = cc
due_away c n p e = refl

-- who is requeued waits for no lock

pub kept_stays : (b : Bool) → (if b then Stays else Stays) ≡ Stays
kept_stays true = refl
kept_stays false = refl

requeued_away : (p : Place) (old new : ℕ) (bound : Option CpuId) (r : Requeue) → requeue p old new bound ≡ r → r ≢ Stays → is_waiter p ≡ false
requeued_away (Waiting l side k) old new bound r e goes = absurd (goes (sym e ∙ kept_stays (old == new)))
requeued_away p old new bound r e goes = refl

pub behind_goes : (d : CpuId) → Behind d ≢ Stays
behind_goes d e = cc

pub anew_goes : Anew ≢ Stays
anew_goes e = cc

pub requeued_at_away : (w : Work) (s : State) (t p : ℕ) (at : Put) → IsRequeuedAt w s t p (Some at) → is_waiter (thread_of s t).place ≡ false
requeued_at_away w s t p at (inl is) = requeued_away (thread_of s t).place (eff_of s t) p (thread_of s t).body.bound (Behind is.0) is.1 (behind_goes is.0)
requeued_at_away w s t p at (inr is) = requeued_away (thread_of s t).place (eff_of s t) p (thread_of s t).body.bound Anew is.0 anew_goes

put_mover : (w : Work) (s : State) (n t p : ℕ) (at : Option Put) → t < length s.threads → IsRequeuedAt w s t p at → MoverIs s (put_step_if w n t at)
put_mover w s n t p None inside is = tt
put_mover w s n t p (Some at) inside is = record { inside = inside; away = requeued_at_away w s t p at is }

reordered_mover : (w : Work) (s : State) (n t p : ℕ) (at : Option Put) (place : Place) → t < length s.threads → IsRequeuedAt w s t p at → MoverIs s (reordered_step w n t at place)
reordered_mover w s n t p at (Running x) inside is = tt
reordered_mover w s n t p at place inside is = put_mover w s n t p at inside is

-- who is bound or set free

bound_away : (d : CpuId) (p : Place) (at : Put) → bound_put d p ≡ Some at → is_waiter p ≡ false
bound_away d (Waiting l side k) at e = cc
bound_away d p at e = refl

unbound_away : (n : ℕ) (b : Option CpuId) (p : Place) (at : Put) → unbound_put n b p ≡ Some at → is_waiter p ≡ false
unbound_away n (Some b) (Waiting l side k) at e = cc
unbound_away n None (Waiting l side k) at e = cc
unbound_away n b p at e = refl

bind_put_away : (s : State) (u : ℕ) (d : Option CpuId) (at : Put) → bind_put s u d ≡ Some at → is_waiter (thread_of s u).place ≡ false
bind_put_away s u (Some d) at e = bound_away d (thread_of s u).place at e
bind_put_away s u None at e = unbound_away (eff_of s u) (thread_of s u).body.bound (thread_of s u).place at e

answered : (a b c d : Bool) (put at : Option Put)
    → (if a then bind_answer.ESRCH else if b then bind_answer.EINVAL else if c then bind_answer.EPERM else if d then bind_answer.EBUSY else bind_answer.Changed put) ≡ bind_answer.Changed at → put ≡ at
answered true b c d put at e = cc
answered false true c d put at e = cc
answered false false true d put at e = cc
answered false false false true put at e = cc
answered false false false false put at e = cc

pub bind_put_is : (w : Work) (s : State) (t u : ℕ) (d : Option CpuId) (at : Option Put) → bind_to w s t u d ≡ bind_answer.Changed at → bind_put s u d ≡ at
unfolding bind_to
bind_put_is w s t u d at e =
    answered (has_ended (thread_of s u).place) (is_misbound w s u (thread_of s u).body.bound d) (not (is_privileged w t) && not (uid_of w t == uid_of w u)) (is_closing s d) (bind_put s u d) at e

bind_mover : (w : Work) (s : State) (n t u : ℕ) (d : Option CpuId) (answer : BindAnswer) → u < length s.threads → answer ≡ bind_to w s t u d → MoverIs s (bind_step w n u answer)
bind_mover w s n t u d (bind_answer.Changed (Some at)) inside is = record { inside = inside; away = bind_put_away s u d at (bind_put_is w s t u d (Some at) (sym is)) }
bind_mover w s n t u d answer inside is = tt

-- The mover of each event.

runs_mover : (s : State) (c t : ℕ) → runner s c ≡ Some t → IsMover s t
runs_mover s c t e = let found = runner_found s c t e in record { inside = found.inside; away = runs_no_waiter c (thread_of s t).place found.stands }

woken_mover : (w : Work) (s : State) (n k : ℕ) (u : Option (ThreadId × Put)) → WakesBest w s k u → MoverIs s (woken_step w n u)
woken_mover w s n k None is = tt
woken_mover w s n k (Some u) is = let found = sleeper_found s k u.0.0 is.best in record { inside = found.inside; away = asleep_away k (thread_of s u.0.0).place found.stands }

roused_mover : (w : Work) (s : State) (n k : ℕ) (below : ℤ) (u : Option (ThreadId × Put)) → RousesBest w s k below u → MoverIs s (woken_step w n u)
roused_mover w s n k below None is = tt
roused_mover w s n k below (Some u) is = let found = sleeper_below_found s k below u.0.0 is.0 in record { inside = found.inside; away = below_away k below (thread_of s u.0.0).place found.stands }

aged_mover : (w : Work) (s : State) (n : ℕ) (c : CpuId) (u t : ℕ) → next_to_age s c.0 u ≡ Some t → MoverIs s (aged_step w s n c t)
aged_mover w s n c u t e = elim (eff_as (aged_class w (thread_of s t).body.class) (thread_of s t).body == eff_of s t) as (λ b. MoverIs s (if b then Stay else Go t (Queued c (back_key n)))) [
  | true ↦ tt
  | false ↦ let found = age_found s c.0 u t e in record { inside = found.inside; away = queued_away c.0 (thread_of s t).place (and_left _ (is_ts (thread_of s t).body.class) found.stands) }
]

prio_mover : (w : Work) (s : State) (n c t : ℕ) (u : ThreadId) (r : Request) (answer : PrioAnswer) → u.0 < length s.threads → IsAnswered w s c t u.0 r answer → MoverIs s (prio_step w s n u answer)
prio_mover w s n c t u r (Changed p at) inside is = reordered_mover w s n u.0 p at (thread_of s u.0).place inside is.3
prio_mover w s n c t u r (Refused denied) inside is = tt

named_thread : (w : Work) (s : State) (c t : ℕ) (o : Op) (u : ℕ) → FitsFully w s → Acts w s c t (Some o) → (op_names (declared w) o ≡ true → nat_lt u (length w.threads) ≡ true) → u < length s.threads
named_thread w s c t o u fits acts names =
    let inside : nat_lt u (length w.threads) ≡ true = names (op_named w t (thread_of s t).body.op o acts.stands) in
    let less : u < length w.threads = grind (arith, nat_tests) in
    omega (arith, fits.threads)

pub prio_thread : (w : Work) (s : State) (c t : ℕ) (u : ThreadId) (r : Request) → FitsFully w s → Acts w s c t (Some (op.Prio u r)) → u.0 < length s.threads
prio_thread w s c t u r fits acts = named_thread w s c t (op.Prio u r) u.0 fits acts (λ e. and_left (nat_lt u.0 (length w.threads)) (request_fits r) e)

pub bind_thread : (w : Work) (s : State) (c t : ℕ) (u : ThreadId) (d : Option CpuId) → FitsFully w s → Acts w s c t (Some (op.Pbind u d)) → u.0 < length s.threads
bind_thread w s c t u d fits acts = named_thread w s c t (op.Pbind u d) u.0 fits acts (λ e. and_left (nat_lt u.0 (length w.threads)) (bound_fits w.cpus d) e)

pub owner_thread : (s : State) (l : LockId) (o : ThreadId) → Agreed s → lock_of s l.0 ≡ Owned o → o.0 < length s.threads
owner_thread s l o agreed is = (agreed.owner l.0 o.0 (ap lock_state is)).0

-- the event ends a wait for a lock
abbrev pub ends_wait : Event → Bool
ends_wait (Unblock l u at) = true
ends_wait (Grant l u at) = true
ends_wait _ = false

-- a thread that leaves its processor, or none at all
abbrev is_own : Option Stride → Bool
is_own None = true
is_own (Some (Goes t whither)) = true
is_own (Some (Falls t end)) = true
is_own (Some (Leaves t d)) = true
is_own _ = false

own_mover : (w : Work) (s : State) (n : ℕ) (c : CpuId) (stride : Option Stride) → is_own stride ≡ true → ((t : ℕ) → leaver stride ≡ Some t → runner s c.0 ≡ Some t) → MoverIs s (step_by w s n c stride)
own_mover w s n c None own runs = tt
own_mover w s n c (Some (Goes t whither)) own runs = runs_mover s c.0 t (runs t refl)
own_mover w s n c (Some (Falls t end)) own runs = runs_mover s c.0 t (runs t refl)
own_mover w s n c (Some (Leaves t d)) own runs = runs_mover s c.0 t (runs t refl)
own_mover w s n c _ own runs = cc

pub mover_of : (w : Work) (s : State) (n : ℕ) (c : CpuId) (e : Event) → ends_wait e ≡ false → FitsFully w s → Agreed s → IsCause w s c.0 e → MoverIs s (step_of w s n c e)
mover_of w s n c (Dispatch t p) quiet fits agreed cause = let found = ready_found s c.0 t.0 cause.1 in record { inside = found.inside; away = ready_away c.0 (cpu_of s c.0).set.0 (thread_of s t.0).place found.stands }
mover_of w s n c (Steal v t p) quiet fits agreed cause =
    let found = unbound_found s v.0 t.0 cause.3 in
    record { inside = found.inside; away = queued_away v.0 (thread_of s t.0).place (and_left _ (is_none (thread_of s t.0).body.bound) found.stands) }
mover_of w s n c (Napend t at) quiet fits agreed cause = let found = due_found s c.0 t.0 cause.0 in record { inside = found.inside; away = due_away c.0 (cpu_of s c.0).count (thread_of s t.0).place found.stands }
mover_of w s n c (Wake t k u) quiet fits agreed cause = woken_mover w s n k.0 u cause.1
mover_of w s n c (Rouse k u) quiet fits agreed cause = roused_mover w s n k.0 cause.0 u cause.2
mover_of w s n c (Will l o p at) quiet fits agreed cause = reordered_mover w s n o.0 p at (thread_of s o.0).place (owner_thread s l o agreed cause.1) cause.3
mover_of w s n c (Unblock l u at) quiet fits agreed cause = cc
mover_of w s n c (Grant l u at) quiet fits agreed cause = cc
mover_of w s n c (Age t p) quiet fits agreed cause = aged_mover w s n c (cause.0).0 t.0 cause.2
mover_of w s n c (Prio t u answer) quiet fits agreed cause = prio_mover w s n c.0 t.0 u cause.0 answer (prio_thread w s c.0 t.0 u cause.0 fits cause.1) cause.2
mover_of w s n c (SemaVWake t k u at) quiet fits agreed cause = let found = sleeper_found s k.0 u.0 cause.1.best in record { inside = found.inside; away = asleep_away k.0 (thread_of s u.0).place found.stands }
mover_of w s n c (Move t at) quiet fits agreed cause = let found = queued_found s c.0 t.0 cause.1 in record { inside = found.inside; away = queued_away c.0 (thread_of s t.0).place found.stands }
mover_of w s n c (Bind t u d answer) quiet fits agreed cause = bind_mover w s n t.0 u.0 d answer (bind_thread w s c.0 t.0 u d fits cause.0) cause.1
mover_of w s n c e quiet fits agreed cause = own_mover w s n c (stride_of e) refl (leaver_runs w s c.0 e cause)

mover_is_there : (s : State) (step : Step) → MoverIs s step → IsMoverThere s step
mover_is_there s Stay is = tt
mover_is_there s (Go t place) is = is.inside

-- the mover of each event is there
pub mover_there : (w : Work) (s : State) (n : ℕ) (c : CpuId) (e : Event) → FitsFully w s → Agreed s → IsCause w s c.0 e → IsMoverThere s (step_of w s n c e)
mover_there w s n c (Unblock l u at) fits agreed cause = (waiter_found s l.0 Writer u.0 cause.1).inside
mover_there w s n c (Grant l u at) fits agreed (inl cause) = (waiter_found s l.0 Writer u.0 cause.1).inside
mover_there w s n c (Grant l u at) fits agreed (inr cause) = (waiter_found s l.0 Reader u.0 cause.1).inside
mover_there w s n c (Tick t) fits agreed cause = tt
mover_there w s n c (Spin t l) fits agreed cause = tt
mover_there w s n c Idle fits agreed cause = tt
mover_there w s n c e fits agreed cause = mover_is_there s (step_of w s n c e) (mover_of w s n c e refl fits agreed cause)
