-- A thread's place in its script through each event.
use Rattle.std.proofs.Common.{◌≡◌, ◌≢◌, ℕ, zero, suc, ◌+◌, ◌<◌, ◌≤◌, Bool, true, false, List, [], ◌∷◌, ◌++◌, length, take, Option, Some, None, refl, ◌∙◌, sym, ap, subst, arith, inl, inr}
use Rattle.std.specs.Prelude.{⊤, ℤ, fold, slice_get}
use Rattle.std.proofs.lemmas.Option.{slice_get_within, same_Some}
use Rattle.sd_types.specs.declared.numbers.Side.{Side}
use Rattle.sd_types.specs.declared.numbers.Side.TheVariants.{Reader}
use Rattle.sd_types.specs.Priorities.{eff, eff_as}
use Rattle.sd_types.specs.Scripts.{without_lock, held_after, held_by}
use Rattle.sd_frames.specs.Causes.{wants, Acts, IsCause}
use Rattle.sd_invariants.specs.Scripted.{IsScripted, Scripted}
use Rattle.sd_frames.proofs.HoldTable.{held_part, leaves_held, held_left, Goes, same_then, put_to, granted_to_writer_held, granted_to_reader_held}
use Rattle.sd_frames.proofs.OpTable.{ender, IsEnderThere, ender_there, Finished, OpsBy, OpsGo}
use Rattle.sd_frames.proofs.PlaceTable.{Stepped}
use Rattle.sd_frames.proofs.Found.{runner_found, waiter_found}
use Rattle.sd_frames.specs.Moves.{Step, put_step_if, woken_step, reordered_step, aged_step, prio_step, bind_step, step_of, Stride, Comes, Goes as Off, Falls, Leaves, Wakes, WakesAny, Reorders, Rises, Changes, Binds, stride_of, step_by}
use Rattle.sd_frames.proofs.Leavers.{Holding, Takes, Gives, holds, held_with, works, acts_of}
use Rattle.sd_machine.specs.Deeds.{Deed, HoldsLock, LetsGo, GrantsLock, Whither, ToQueue, ToSleep, ToWait, ToNap, ToEnd, place_to, did, all_did, deeds, first, at_most_one}
use Rattle.sd_machine.proofs.DeedLemmas.{effect_did, none_first, one_first}
use Rattle.sd_machine.proofs.ShapeLemmas.{deed_shape}
use Rattle.sd_frames.proofs.ThreadParts.{deed_same}
use Rattle.sd_frames.proofs.Words.{all_same}
use Rattle.sd_frames.proofs.HoldTable.{there, put_then, hold_put, let_go_held}
use Rattle.sd_machine.specs.Changes.{hold, let_go}
use Rattle.sd_frames.specs.Moves.Step.{Stay, Go}
use Rattle.sd_machine.specs.Accounts.{is_block}
use Rattle.sd_machine.proofs.Moves.{put_cases}
use Rattle.std.proofs.lemmas.Bool.{cases_eq, eqb-true}
use Rattle.sd_types.specs.declared.numbers.CpuId.{CpuId}
use Rattle.sd_types.specs.declared.numbers.LockId.{LockId}
use Rattle.sd_types.specs.declared.numbers.Side.TheVariants.{Writer}
use Rattle.sd_types.specs.declared.numbers.ThreadId.{ThreadId}
use Rattle.sd_types.specs.declared.bodies.ThreadBody.{ThreadBody}
use Rattle.sd_types.specs.declared.events.BindAnswer.{BindAnswer}
use Rattle.sd_types.specs.declared.events.BindAnswer.TheVariants as bind_answer
use Rattle.sd_types.specs.declared.events.Duty.{Duty}
use Rattle.sd_types.specs.declared.events.Duty.TheVariants as duty
use Rattle.sd_types.specs.declared.events.Event.{Event}
use Rattle.sd_types.specs.declared.events.Event.TheVariants.{Tick, Enter, Read, Write, Block, Exit, Grant, CvWait}
use Rattle.sd_types.specs.declared.events.PrioAnswer.{PrioAnswer}
use Rattle.sd_types.specs.declared.events.PrioAnswer.TheVariants.{Changed, Refused}
use Rattle.sd_types.specs.declared.events.Put.{Put}
use Rattle.sd_types.specs.declared.scripts.Op.{Op}
use Rattle.sd_types.specs.declared.scripts.Op.TheVariants as op
use Rattle.sd_types.specs.declared.works.Work.{Work}
use Rattle.std.specs.Prelude.{if◌then◌else◌, is_none, nat_le, ◌==◌, ◌&&◌}
use Rattle.sd_basics.proofs.Truths.{and_left, and_right}
use Rattle.sd_state.specs.declared.states.Place.{Place}
use Rattle.sd_state.specs.declared.states.Place.TheVariants.{Running, Queued, RealTime, Waiting}
use Rattle.sd_state.specs.declared.states.State.{State}
use Rattle.sd_state.specs.States.{thread_of, cpu_of, is_running, set_of, same_side, eff_of}
use Rattle.sd_state.specs.Operations.{script_of, op_of}
use Rattle.sd_machine.specs.Threads.{is_waiting_at, runner}
use Rattle.sd_machine.specs.Bodies.{aged_class}
use Rattle.sd_machine.specs.Changes.{back_key, queue_place, place_put}
use Rattle.sd_machine.specs.Dispatching.{done}
use Rattle.sd_machine.specs.Locking.{side_of, granted}
use Rattle.sd_machine.specs.Events.{drop_ageing, effect, after}
use Rattle.sd_machine.proofs.PlaceLemmas.{is_waiter, put_no_waiter}
use Rattle.sd_frames.proofs.Words.{then_same, set_duty_same, Same}

-- What becomes of the locks that are held.

abbrev pub HeldOf : State → State → Option Holding → Type 0
HeldOf s r None = Same held_part s r
HeldOf s r (Some (Takes t l)) = Goes held_part s r t ((thread_of s t).body.held.items ++ l ∷ [])
HeldOf s r (Some (Gives t l)) = Goes held_part s r t (without_lock l (thread_of s t).body.held.items)

abbrev pub HeldGo : State → State → Event → Type 0
HeldGo s r e = HeldOf s r (first holds (deeds e))

granted_held : (w : Work) (s : State) (n : ℕ) (c : CpuId) (l : LockId) (u : ℕ) (at : Put) (d : Duty) → u < length s.threads → Goes held_part s (granted w s n c l u at d) u ((thread_of s u).body.held.items ++ l ∷ [])
granted_held w s n c l u at (duty.GrantWriter m) here = granted_to_writer_held w s n c l u at here
granted_held w s n c l u at _ here = granted_to_reader_held w s n c l u at here

abbrev whose_hold : Holding → ℕ
whose_hold (Takes t l) = t
whose_hold (Gives t l) = t

held_before : (s r q : State) (x : Holding) → Same held_part s r → HeldOf r q (Some x) → HeldOf s q (Some x)
held_before s r q (Takes t l) a b = put_to held_part s q t _ _ (same_then held_part s r q t _ a b) (ap (λ (xs : List LockId). xs ++ l ∷ []) (a.each t))
held_before s r q (Gives t l) a b = put_to held_part s q t _ _ (same_then held_part s r q t _ a b) (ap (λ (xs : List LockId). without_lock l xs) (a.each t))

held_behind : (s r q : State) (x : Holding) → HeldOf s r (Some x) → Same held_part r q → HeldOf s q (Some x)
held_behind s r q (Takes t l) a b = put_then held_part s r q t _ a b
held_behind s r q (Gives t l) a b = put_then held_part s r q t _ a b

module _ (w : Work) (n : ℕ) (c : CpuId) where
  deed_held : (s : State) (d : Deed) → holds d ≡ None → Same held_part s (did w n c s d)
  deed_held s (HoldsLock t l) none = cc
  deed_held s (LetsGo t l) none = cc
  deed_held s (GrantsLock l u at) none = cc
  deed_held s d none = deed_same held_part leaves_held held_left w n c s d refl

  does_hold : (s : State) (d : Deed) (x : Holding) → holds d ≡ Some x → whose_hold x < length s.threads → HeldOf s (did w n c s d) (Some x)
  does_hold s (HoldsLock t l) x is here = subst (λ y. whose_hold y < length s.threads → HeldOf s (hold s t l) (Some y)) (same_Some (Takes t l) x is) (hold_put s t l) here
  does_hold s (LetsGo t l) x is here = subst (λ y. whose_hold y < length s.threads → HeldOf s (let_go s t l) (Some y)) (same_Some (Gives t l) x is) (let_go_held s t l) here
  does_hold s (GrantsLock l u at) x is here =
      subst (λ y. whose_hold y < length s.threads → HeldOf s (granted w s n c l u at (cpu_of s c.0).duty) (Some y)) (same_Some (Takes u l) x is) (granted_held w s n c l u at (cpu_of s c.0).duty) here
  does_hold s d x is here = cc

  holder_there : (s : State) (d : Deed) (x : Holding) → whose_hold x < length s.threads → whose_hold x < length (did w n c s d).threads
  holder_there s d x here = there s (did w n c s d) (whose_hold x) (deed_shape w n c s d) here

-- no event takes or gives two locks; and who takes one or gives one up is whose operation is over
holds_one : (e : Event) → at_most_one holds (deeds e) ≡ true
holds_one (Tick t) = refl
holds_one _ = refl

holder_ends : (e : Event) (x : Holding) → first holds (deeds e) ≡ Some x → ender e ≡ Some (whose_hold x)
holder_ends (Tick t) x is = cc
holder_ends _ x is = cc

effect_held : (w : Work) (s : State) (n : ℕ) (c : CpuId) (e : Event) → IsEnderThere s (ender e) → HeldGo s (effect w s n c e) e
effect_held w s n c e here = subst (λ r. HeldGo s r e) (sym (effect_did w s n c e)) (by (first holds (deeds e)) refl)
  where
    by : (o : Option Holding) → first holds (deeds e) ≡ o → HeldOf s (all_did w n c s (deeds e)) o
    by None none =
        none_first w n c holds {T = λ r q x. HeldOf r q (Some x)} (all_same held_part) (then_same held_part) held_before held_behind {Fit = λ r x. whose_hold x < length r.threads} (holder_there w n c) (deed_held w n c) (does_hold w n c) s (deeds e) (holds_one e) none
    by (Some x) some =
        one_first w n c holds {T = λ r q x. HeldOf r q (Some x)} (all_same held_part) (then_same held_part) held_before held_behind {Fit = λ r x. whose_hold x < length r.threads} (holder_there w n c) (deed_held w n c) (does_hold w n c) s (deeds e) x (holds_one e) some
        (subst (λ o. IsEnderThere s o) (holder_ends e x some) here)

held_of : (s r q : State) (o : Option Holding) → Same held_part s r → HeldOf r q o → HeldOf s q o
held_of s r q None a b = then_same held_part s r q a b
held_of s r q (Some x) a b = held_before s r q x a b

drop_held : (s : State) (c : ℕ) (e : Event) → Same held_part s (drop_ageing s c e)
unfolding drop_ageing
drop_held s c e = set_duty_same held_part s c _

pub after_held : (w : Work) (s : State) (n : ℕ) (c : CpuId) (e : Event) → IsEnderThere s (ender e) → HeldGo s (after w s n c e) e
unfolding after
after_held w s n c e here = held_of s (drop_ageing s c.0 e) _ (first holds (deeds e)) (drop_held s c.0 e) (effect_held w _ n c e (ender_there s c.0 e (ender e) here))

-- One operation more.

fold_append : (xs ys : List Op) (a : List LockId) → fold held_after a (xs ++ ys) ≡ fold held_after (fold held_after a xs) ys
fold_append [] ys a = refl
fold_append (x ∷ xs) ys a = fold_append xs ys (held_after a x)

take_one : (ops : List Op) (i : ℕ) (o : Op) → slice_get ops i ≡ Some o → take (i + 1) ops ≡ take i ops ++ o ∷ []
take_one [] i o e = cc
take_one (x ∷ xs) zero o e = let is : x ≡ o = cc in rw is refl
take_one (x ∷ xs) (suc i) o e = ap (λ j. take j (x ∷ xs)) (let q : suc i + 1 ≡ suc (i + 1) = omega arith in q) ∙ ap (λ (ys : List Op). x ∷ ys) (take_one xs i o e)

held_by_one : (ops : List Op) (i : ℕ) (o : Op) → slice_get ops i ≡ Some o → held_by (take (i + 1) ops) ≡ held_after (held_by (take i ops)) o
held_by_one ops i o e = ap (λ xs. fold held_after [] xs) (take_one ops i o e) ∙ fold_append (take i ops) (o ∷ []) []

-- A thread that waits.

not_waiter : (p : Place) (l : LockId) (side : Side) (k : ℤ) → is_waiter p ≡ false → p ≡ Waiting l side k → ⊥
not_waiter (Waiting m other j) l side k e is = cc
not_waiter p l side k e is = cc

pub runs_no_waiter : (c : ℕ) (p : Place) → is_running c p ≡ true → is_waiter p ≡ false
runs_no_waiter c (Running d) e = refl
runs_no_waiter c p e = cc

pub queue_no_waiter : (w : Work) (t : ℕ) (c : CpuId) (k : ℤ) (b : ThreadBody) → is_waiter (queue_place w t c k b) ≡ false
queue_no_waiter w t c k b = elim (nat_le 100 (eff b) && is_none b.bound) as (λ v. is_waiter (if v then RealTime (set_of w t) k else Queued c k) ≡ false) [ true ↦ refl | false ↦ refl ]

-- What becomes of one thread.

module _ (w : Work) (s r : State) (u : ℕ) (before : IsScripted w s u) where
  -- it keeps its operation and its locks, and does not come to wait
  pub keeps : (thread_of r u).body.op ≡ (thread_of s u).body.op → (thread_of r u).body.held.items ≡ (thread_of s u).body.held.items
      → ((l : LockId) (side : Side) (k : ℤ) → (thread_of r u).place ≡ Waiting l side k → (o : Op) × (slice_get (script_of w u) (thread_of s u).body.op ≡ Some o) × (wants o ≡ Some (l, side))) → IsScripted w r u
  keeps ops held waits = record {
    op = subst (λ i. i ≤ length (script_of w u)) (sym ops) before.op;
    held = held ∙ before.held ∙ ap (λ i. held_by (take i (script_of w u))) (sym ops);
    waits = λ l side k is. let (o, at, wanted) = waits l side k is in (o, ap (λ i. slice_get (script_of w u) i) ops ∙ at, wanted);
  }

  -- its operation is over, and it does not wait
  pub goes_on : (o : Op) → slice_get (script_of w u) (thread_of s u).body.op ≡ Some o → (thread_of r u).body.op ≡ (thread_of s u).body.op + 1
      → (thread_of r u).body.held.items ≡ held_after (thread_of s u).body.held.items o → is_waiter (thread_of r u).place ≡ false → IsScripted w r u
  goes_on o at ops held away =
      let inside = slice_get_within (script_of w u) (thread_of s u).body.op o at in
      record {
        op = subst (λ i. i ≤ length (script_of w u)) (sym ops) (omega arith);
        held = held ∙ ap (λ (xs : List LockId). held_after xs o) before.held ∙ sym (held_by_one (script_of w u) (thread_of s u).body.op o at) ∙ ap (λ i. held_by (take i (script_of w u))) (sym ops);
        waits = λ l side k is. absurd (not_waiter (thread_of r u).place l side k away is);
      }

-- The steps.

abbrev pub StepAway : Step → Type 0
StepAway Stay = ⊤
StepAway (Go m p) = is_waiter p ≡ false

pub waits_after : (step : Step) (s r : State) (u : ℕ) → Stepped step s r → StepAway step → (l : LockId) (side : Side) (k : ℤ) → (thread_of r u).place ≡ Waiting l side k → (thread_of s u).place ≡ Waiting l side k
waits_after Stay s r u a away l side k is = sym (a u) ∙ is
waits_after (Go m p) s r u a away l side k is = elim (put_cases m p _ _ a u) [
  | inl me ↦ absurd (not_waiter p l side k away (sym me.1 ∙ is))
  | inr other ↦ sym other.1 ∙ is
]

pub away_after : (step : Step) (s r : State) (u : ℕ) → Stepped step s r → StepAway step → is_waiter (thread_of s u).place ≡ false → is_waiter (thread_of r u).place ≡ false
away_after Stay s r u a away before = ap is_waiter (a u) ∙ before
away_after (Go m p) s r u a away before = elim (put_cases m p _ _ a u) [
  | inl me ↦ ap is_waiter me.1 ∙ away
  | inr other ↦ ap is_waiter other.1 ∙ before
]

put_if_away : (w : Work) (n t : ℕ) (at : Option Put) → StepAway (put_step_if w n t at)
put_if_away w n t None = tt
put_if_away w n t (Some at) = put_no_waiter w n t at

woken_away : (w : Work) (n : ℕ) (u : Option (ThreadId × Put)) → StepAway (woken_step w n u)
woken_away w n None = tt
woken_away w n (Some u) = put_no_waiter w n u.0.0 u.1

reordered_away : (w : Work) (n t : ℕ) (at : Option Put) (p : Place) → StepAway (reordered_step w n t at p)
reordered_away w n t at (Running x) = tt
reordered_away w n t at _ = put_if_away w n t at

aged_away : (w : Work) (s : State) (n : ℕ) (c : CpuId) (t : ℕ) → StepAway (aged_step w s n c t)
aged_away w s n c t = elim (eff_as (aged_class w (thread_of s t).body.class) (thread_of s t).body == eff_of s t) as (λ b. StepAway (if b then Stay else Go t (Queued c (back_key n)))) [ true ↦ tt | false ↦ refl ]

prio_away : (w : Work) (s : State) (n : ℕ) (u : ThreadId) (answer : PrioAnswer) → StepAway (prio_step w s n u answer)
prio_away w s n u (Changed p at) = reordered_away w n u.0 at (thread_of s u.0).place
prio_away w s n u (Refused d) = tt

bind_away : (w : Work) (n u : ℕ) (answer : BindAnswer) → StepAway (bind_step w n u answer)
bind_away w n u (bind_answer.Changed at) = put_if_away w n u at
bind_away w n u bind_answer.ESRCH = tt
bind_away w n u bind_answer.EINVAL = tt
bind_away w n u bind_answer.EPERM = tt
bind_away w n u bind_answer.EBUSY = tt

goes_away : (w : Work) (s : State) (n : ℕ) (c : CpuId) (t : ℕ) (whither : Whither) → ((l : LockId) → whither ≢ ToWait l) → StepAway (Go t (place_to w n c s t whither))
goes_away w s n c t ToQueue other = queue_no_waiter w t c _ (thread_of s t).body
goes_away w s n c t (ToSleep k) other = refl
goes_away w s n c t (ToWait l) other = absurd (other l refl)
goes_away w s n c t ToNap other = refl
goes_away w s n c t ToEnd other = refl

stride_away : (w : Work) (s : State) (n : ℕ) (c : CpuId) (stride : Option Stride) → ((t : ℕ) (whither : Whither) → stride ≡ Some (Off t whither) → (l : LockId) → whither ≢ ToWait l) → StepAway (step_by w s n c stride)
stride_away w s n c None other = tt
stride_away w s n c (Some (Comes t)) other = refl
stride_away w s n c (Some (Off t whither)) other = goes_away w s n c t whither (other t whither refl)
stride_away w s n c (Some (Falls t end)) other = queue_no_waiter w t c _ (thread_of s t).body
stride_away w s n c (Some (Leaves t d)) other = refl
stride_away w s n c (Some (Wakes t at)) other = put_no_waiter w n t at
stride_away w s n c (Some (WakesAny u)) other = woken_away w n u
stride_away w s n c (Some (Reorders o at)) other = reordered_away w n o.0 at (thread_of s o.0).place
stride_away w s n c (Some (Rises t)) other = aged_away w s n c t
stride_away w s n c (Some (Changes t u answer)) other = prio_away w s n u answer
stride_away w s n c (Some (Binds u answer)) other = bind_away w n u answer

none_waits : (e : Event) → is_block e ≡ false → (t : ℕ) (whither : Whither) → stride_of e ≡ Some (Off t whither) → (l : LockId) → whither ≢ ToWait l
none_waits (Block u m) quiet t whither is l same = cc
none_waits e quiet t whither is l same = cc

pub step_away : (w : Work) (s : State) (n : ℕ) (c : CpuId) (e : Event) → is_block e ≡ false → StepAway (step_of w s n c e)
step_away w s n c e quiet = stride_away w s n c (stride_of e) (none_waits e quiet)

-- What the cause says of the thread whose operation is over.

pub runs_there : (s : State) (c t : ℕ) → runner s c ≡ Some t → t < length s.threads
runs_there s c t e = (runner_found s c t e).inside

-- who ends its operation is at work on it, but for one that is granted a lock
abbrev is_grant : Event → Bool
is_grant (Grant l u at) = true
is_grant _ = false

worker_is : (e : Event) (t : ℕ) → is_grant e ≡ false → ender e ≡ Some t → first works (deeds e) ≡ Some t
worker_is (Grant l u at) t other is = cc
worker_is e t other is = is

there_if : (s : State) (o : Option ℕ) → ((t : ℕ) → o ≡ Some t → t < length s.threads) → IsEnderThere s o
there_if s None found = tt
there_if s (Some t) found = found t refl

ender_else : (w : Work) (s : State) (c : ℕ) (e : Event) → is_grant e ≡ false → IsCause w s c e → IsEnderThere s (ender e)
ender_else w s c e other cause = there_if s (ender e) (λ t is. runs_there s c t (acts_of w s c e cause t (worker_is e t other is)).acts.runs)

pub ender_in : (w : Work) (s : State) (c : ℕ) (e : Event) → IsCause w s c e → IsEnderThere s (ender e)
ender_in w s c (Grant l u at) (inl cause) = (waiter_found s l.0 Writer u.0 cause.1).inside
ender_in w s c (Grant l u at) (inr cause) = (waiter_found s l.0 Reader u.0 cause.1).inside
ender_in w s c e cause = ender_else w s c e refl cause

-- the operation that is over, and what it makes of the locks that are held
pub record IsOver (w : Work) (s r : State) (t : ℕ) : Type 0 where
  pub by : Op
  pub stood : op_of w t (thread_of s t).body ≡ Some by
  pub held : (thread_of r t).body.held.items ≡ held_after (thread_of s t).body.held.items by
  pub away : is_waiter (thread_of r t).place ≡ false

over_running : (w : Work) (s r : State) (c t : ℕ) (step : Step) (o : Op) → Acts w s c t (Some o) → Stepped step s r → StepAway step
    → (thread_of r t).body.held.items ≡ held_after (thread_of s t).body.held.items o → IsOver w s r t
over_running w s r c t step o acts a away held = record {
  by = o;
  stood = acts.stands;
  held = held;
  away = away_after step s r t a away (runs_no_waiter c (thread_of s t).place (runner_found s c t acts.runs).stands);
}

pub waits_here : (l : LockId) (side : Side) (p : Place) → is_waiting_at l.0 side p ≡ true → (k : ℤ) × (p ≡ Waiting l side k)
waits_here l side (Waiting m other k) e = (k, same m other k (and_left (m.0 == l.0) _ e) (and_right (m.0 == l.0) _ e))
  where
    side_is : (x y : Side) → same_side x y ≡ true → y ≡ x
    side_is Writer Writer e = refl
    side_is Reader Reader e = refl
    side_is Writer Reader e = cc
    side_is Reader Writer e = cc

    same : (m : LockId) (other : Side) (k : ℤ) → (m.0 == l.0) ≡ true → same_side side other ≡ true → Waiting m other k ≡ Waiting l side k
    same m other k e f = let lock : ℕ → LockId = λ i. record { 0 = i } in ap (λ i. Waiting (lock i) other k) (eqb-true m.0 l.0 e) ∙ ap (λ x. Waiting l x k) (side_is side other f)
waits_here l side p e = cc

-- an operation that wants a lock takes it
takes : (o : Op) (l : LockId) (side : Side) (held : List LockId) → wants o ≡ Some (l, side) → held_after held o ≡ held ++ l ∷ []
takes (op.Enter m) l side held e = ap (λ x. held ++ x.0 ∷ []) (same_Some (m, Writer) (l, side) e)
takes (op.Read m) l side held e = ap (λ x. held ++ x.0 ∷ []) (same_Some (m, Reader) (l, side) e)
takes (op.Write m) l side held e = ap (λ x. held ++ x.0 ∷ []) (same_Some (m, Writer) (l, side) e)
takes o l side held e = cc

over_granted : (w : Work) (s r : State) (u : ℕ) (l : LockId) (side : Side) (p : Place) → IsScripted w s u → is_waiting_at l.0 side (thread_of s u).place ≡ true → Stepped (Go u p) s r → is_waiter p ≡ false
    → (thread_of r u).body.held.items ≡ (thread_of s u).body.held.items ++ l ∷ [] → IsOver w s r u
over_granted w s r u l side p before waits a away held =
    let (k, is) = waits_here l side (thread_of s u).place waits in
    let (o, at, wanted) = before.waits l side k is in
    record { by = o; stood = at; held = held ∙ sym (takes o l side (thread_of s u).body.held.items wanted); away = ap is_waiter a.at ∙ away }

abbrev pub OverIf : Work → State → State → Option ℕ → Type 0
OverIf w s r None = ⊤
OverIf w s r (Some t) = IsOver w s r t

held_at : (s r : State) (t : ℕ) (o : Option Holding) → ((x : Holding) → o ≡ Some x → whose_hold x ≡ t) → HeldOf s r o → (thread_of r t).body.held.items ≡ held_with o (thread_of s t).body.held.items
held_at s r t None same held = held.each t
held_at s r t (Some (Takes u l)) same held = subst (λ v. (thread_of r v).body.held.items ≡ (thread_of s v).body.held.items ++ l ∷ []) (same (Takes u l) refl) held.put.at
held_at s r t (Some (Gives u l)) same held = subst (λ v. (thread_of r v).body.held.items ≡ without_lock l (thread_of s v).body.held.items) (same (Gives u l) refl) held.put.at

over_else : (w : Work) (s r : State) (n : ℕ) (c : CpuId) (e : Event) → is_grant e ≡ false → is_block e ≡ false → IsCause w s c.0 e → Stepped (step_of w s n c e) s r → HeldGo s r e → OverIf w s r (ender e)
over_else w s r n c e other quiet cause a held = by (ender e) refl
  where
    by : (o : Option ℕ) → ender e ≡ o → OverIf w s r o
    by None none = tt
    by (Some t) is =
        let work = acts_of w s c.0 e cause t (worker_is e t other is) in
        over_running w s r c.0 t (step_of w s n c e) work.by work.acts a (step_away w s n c e quiet)
        (held_at s r t (first holds (deeds e)) (λ x some. same_Some (whose_hold x) t (sym (holder_ends e x some) ∙ is)) held ∙ work.held (thread_of s t).body.held.items)

pub over_of : (w : Work) (s r : State) (n : ℕ) (c : CpuId) (e : Event) → IsCause w s c.0 e → Scripted w s → Stepped (step_of w s n c e) s r → HeldGo s r e → OverIf w s r (ender e)
over_of w s r n c (Grant l u at) (inl cause) before a held = over_granted w s r u.0 l Writer (place_put w n u.0 at) (before u.0 (waiter_found s l.0 Writer u.0 cause.1).inside) (waiter_found s l.0 Writer u.0 cause.1).stands a (put_no_waiter w n u.0 at) held.put.at
over_of w s r n c (Grant l u at) (inr cause) before a held = over_granted w s r u.0 l Reader (place_put w n u.0 at) (before u.0 (waiter_found s l.0 Reader u.0 cause.1).inside) (waiter_found s l.0 Reader u.0 cause.1).stands a (put_no_waiter w n u.0 at) held.put.at
over_of w s r n c (Block t l) cause before a held = tt
over_of w s r n c e cause before a held = over_else w s r n c e refl refl cause a held

-- the locks that another thread holds
held_other : (s r : State) (e : Event) (u : ℕ) → HeldGo s r e → ((t : ℕ) → ender e ≡ Some t → u ≢ t) → (thread_of r u).body.held.items ≡ (thread_of s u).body.held.items
held_other s r (Enter t l) thread held other = held.put.others thread (other t.0 refl)
held_other s r (Read t l) thread held other = held.put.others thread (other t.0 refl)
held_other s r (Write t l) thread held other = held.put.others thread (other t.0 refl)
held_other s r (Exit t l) thread held other = held.put.others thread (other t.0 refl)
held_other s r (Grant l u at) thread held other = held.put.others thread (other u.0 refl)
held_other s r (CvWait t k l) thread held other = held.put.others thread (other t.0 refl)
held_other s r e thread held other = held.each thread

-- a thread that blocks stands at an operation that wants the lock
pub side_is : (o : Op) (l : LockId) (side : Side) → wants o ≡ Some (l, side) → side_of (Some o) ≡ side
side_is (op.Enter m) l side e = ap (λ x. x.1) (same_Some (m, Writer) (l, side) e)
side_is (op.Read m) l side e = ap (λ x. x.1) (same_Some (m, Reader) (l, side) e)
side_is (op.Write m) l side e = ap (λ x. x.1) (same_Some (m, Writer) (l, side) e)
side_is o l side e = cc

module _ (w : Work) (s r : State) (n : ℕ) (c : CpuId) (u : ℕ) (before : IsScripted w s u) where
  quiet_scripted : (step : Step) → Stepped step s r → StepAway step → (thread_of r u).body.op ≡ (thread_of s u).body.op → (thread_of r u).body.held.items ≡ (thread_of s u).body.held.items → IsScripted w r u
  quiet_scripted step a away ops held = keeps w s r u before ops held (λ l side k is. before.waits l side k (waits_after step s r u a away l side k is))

  over_scripted : (step : Step) → Stepped step s r → StepAway step → IsOver w s r u → Finished s r u → IsScripted w r u
  over_scripted step a away over ends = goes_on w s r u before over.by over.stood ends.ops.at over.held over.away

  block_scripted : (t : ℕ) (l : LockId) (side : Side) (by : Op) → Acts w s c.0 t (Some by) → wants by ≡ Some (l, side)
      → Stepped (Go t (Waiting l (side_of (op_of w t (thread_of s t).body)) (back_key n))) s r
      → (thread_of r u).body.op ≡ (thread_of s u).body.op → (thread_of r u).body.held.items ≡ (thread_of s u).body.held.items → IsScripted w r u
  block_scripted t l side by acts wanted a ops held = keeps w s r u before ops held (λ m other k is. elim (put_cases t _ _ _ a u) [
    | inl me ↦
        let here : Waiting l (side_of (op_of w t (thread_of s t).body)) (back_key n) ≡ Waiting m other k = sym me.1 ∙ is in
        let which : side_of (op_of w t (thread_of s t).body) ≡ side = ap side_of acts.stands ∙ side_is by l side wanted in
        let locks : l ≡ m = cc in
        let sides : side_of (op_of w t (thread_of s t).body) ≡ other = cc in
        (by, subst (λ v. op_of w v (thread_of s v).body ≡ Some by) (sym me.0) acts.stands, wanted ∙ ap (λ x. Some (x, side)) locks ∙ ap (λ x. Some (m, x)) (sym which ∙ sides))
    | inr him ↦ before.waits m other k (sym him.1 ∙ is)
  ])

finished_by : (w : Work) (s r : State) (n : ℕ) (c : CpuId) (e : Event) (t : ℕ) → ender e ≡ Some t → IsOver w s r t → Finished s r t → HeldGo s r e → Stepped (step_of w s n c e) s r
    → StepAway (step_of w s n c e) → (u : ℕ) → IsScripted w s u → IsScripted w r u
finished_by w s r n c e t ends over done held a away u before = elim (cases_eq u t) [
  | inl me ↦ subst (λ v. IsScripted w r v) (sym me) (over_scripted w s r n c t (subst (λ v. IsScripted w s v) me before) (step_of w s n c e) a away over done)
  | inr other ↦ quiet_scripted w s r n c u before (step_of w s n c e) a away (done.ops.others u other) (held_other s r e u held (apart other))
]
  where
    apart : u ≢ t → (v : ℕ) → ender e ≡ Some v → u ≢ v
    apart other v is same = let t_is : t ≡ v = same_Some t v (sym ends ∙ is) in other (same ∙ sym t_is)

by_ender : (w : Work) (s r : State) (n : ℕ) (c : CpuId) (e : Event) (o : Option ℕ) → ender e ≡ o → OverIf w s r o → OpsBy s r o → HeldGo s r e → Stepped (step_of w s n c e) s r
    → StepAway (step_of w s n c e) → (u : ℕ) → IsScripted w s u → IsScripted w r u
by_ender w s r n c e None is over ops held a away u before = quiet_scripted w s r n c u before (step_of w s n c e) a away (ops.each u) (held_other s r e u held (λ t ends. cc))
by_ender w s r n c e (Some t) is over ops held a away u before = finished_by w s r n c e t is over ops held a away u before

-- where what each event makes of operations, locks and places is known, threads stand where they stand in their scripts
pub scripted_by : (w : Work) (s r : State) (n : ℕ) (c : CpuId) (e : Event) → Scripted w s → IsCause w s c.0 e → OpsGo s r e → HeldGo s r e → Stepped (step_of w s n c e) s r
    → (u : ℕ) → IsScripted w s u → IsScripted w r u
scripted_by w s r n c (Block t l) all cause ops held a u before =
    let wanted = cause.1 in
    block_scripted w s r n c u before t.0 l cause.0 wanted.by wanted.acts wanted.wanted a (ops.each u) (held.each u)
scripted_by w s r n c (Tick t) all cause (inl same) held a thread before = quiet_scripted w s r n c thread before (step_of w s n c (Tick t)) a (step_away w s n c (Tick t) refl) (same.each thread) (held.each thread)
scripted_by w s r n c (Tick t) all cause (inr done) held a thread before = finished_by w s r n c (Tick t) t.0 refl (over_of w s r n c (Tick t) cause all a held) done held a (step_away w s n c (Tick t) refl) thread before
scripted_by w s r n c e all cause ops held a thread before =
    by_ender w s r n c e (ender e) refl (over_of w s r n c e cause all a held) ops held a (step_away w s n c e refl) thread before
