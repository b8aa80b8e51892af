-- The one thread whose class state an event may change.
use Rattle.std.proofs.Common.{◌≡◌, ℕ, Bool, true, false, Option, Some, None, refl, ap, ◌∙◌, sym, subst}
use Rattle.std.specs.Prelude.{if◌then◌else◌, ⊤, Result, Ok, Err, nat_lt, ◌==◌}
use Rattle.std.proofs.lemmas.List.{get_or-set_other}
use Rattle.sd_types.specs.declared.numbers.CpuId.{CpuId}
use Rattle.sd_types.specs.declared.numbers.LockId.{LockId}
use Rattle.sd_types.specs.declared.numbers.ThreadId.{ThreadId}
use Rattle.sd_types.specs.declared.classes.ClassParms.{ClassParms}
use Rattle.sd_types.specs.declared.classes.ClassState.{ClassState}
use Rattle.sd_types.specs.declared.events.Denied.{Denied}
use Rattle.sd_types.specs.declared.events.Duty.{Duty}
use Rattle.sd_types.specs.declared.events.Duty.TheVariants as duty
use Rattle.sd_types.specs.declared.events.End.{End}
use Rattle.sd_types.specs.declared.events.Event.{Event}
use Rattle.sd_types.specs.declared.events.Event.TheVariants.{Wake, Rouse, Prio}
use Rattle.sd_types.specs.declared.events.PrioAnswer.{PrioAnswer}
use Rattle.sd_types.specs.declared.events.PrioAnswer.TheVariants.{Changed, Refused}
use Rattle.sd_types.specs.declared.events.Put.{Put}
use Rattle.sd_types.specs.declared.scripts.Op.{Op}
use Rattle.sd_types.specs.declared.scripts.Op.TheVariants as op
use Rattle.sd_types.specs.declared.works.Work.{Work}
use Rattle.sd_state.specs.declared.states.LockState.TheVariants.{Owned}
use Rattle.sd_state.specs.declared.states.Place.{Place}
use Rattle.sd_state.specs.declared.states.Place.TheVariants.{Running}
use Rattle.sd_state.specs.declared.states.ThreadState.{ThreadState}
use Rattle.sd_state.specs.declared.states.State.{State}
use Rattle.sd_state.specs.States.{no_thread, thread_of, cpu_of, with_thread, eff_of}
use Rattle.sd_state.specs.Operations.{op_of}
use Rattle.sd_machine.specs.Threads.{thread_id, lock_of, with_lock}
use Rattle.sd_machine.specs.Bodies.{aged_class, departed}
use Rattle.sd_machine.specs.Changes.{with_place, finish_op, set_class, send_back, hold, set_number, set_duty, leave, place_put, put, put_where}
use Rattle.sd_machine.specs.Dispatching.{charge, class_counts, preempted}
use Rattle.sd_machine.specs.Sleeping.{woken, roused}
use Rattle.sd_machine.specs.Locking.{others_waiting, one_reader_more, granted_to_writer, granted_to_reader, granted}
use Rattle.sd_machine.specs.Requeueing.{reordered_at, reordered}
use Rattle.sd_machine.specs.Prioritising.{answer_to, new_class, changed_by, changed_on, lifted, aged}
use Rattle.std.specs.List.{list_all}
use Rattle.sd_machine.specs.Deeds.{Deed, CountsClass, GoesBack, WakesUp, WakesIf, GrantsLock, Rouses, Lifts, Reclasses, did, all_did, deeds, first, at_most_one}
use Rattle.sd_machine.proofs.DeedLemmas.{effect_did, none_first, one_first}
use Rattle.sd_frames.proofs.Made.{Kind, kinds}
use Rattle.sd_frames.proofs.ThreadParts.{Leaves, ran_left, deed_same as deed_leaves}
use Rattle.sd_machine.specs.Events.{drop_ageing, effect, after}
use Rattle.sd_frames.proofs.HoldTable.{body_same}
use Rattle.sd_frames.proofs.Parts.{same_item}
use Rattle.sd_frames.proofs.Words.{Same, all_same, then_same, lock_same, set_duty_same, set_mark_same, mark_over_same, remark_same, walk_from_same, roused_on_same}

abbrev pub class_part : ThreadState → ClassState
class_part x = x.body.class

abbrev Classes : State → State → Type 0
Classes s r = Same class_part s r

then_classes : (s r q : State) → Classes s r → Classes r q → Classes s q
then_classes s r q a b = then_same class_part s r q a b

written : (s : State) (t : ℕ) (x : ThreadState) → class_part x ≡ class_part (thread_of s t) → Classes s (with_thread s t x)
written s t x same = record { each = same_item class_part s.threads no_thread t x same }

-- Words that change no class.

finish_op_class : (w : Work) (s : State) (t : ℕ) → Classes s (finish_op w s t)
unfolding finish_op
finish_op_class w s t = body_same class_part s t _ refl

send_back_class : (s : State) (t : ℕ) → Classes s (send_back s t)
unfolding send_back
send_back_class s t = body_same class_part s t _ refl

hold_class : (s : State) (t : ℕ) (l : LockId) → Classes s (hold s t l)
unfolding hold
hold_class s t l = body_same class_part s t _ refl

set_number_class : (s : State) (t : ℕ) (l : LockId) (o : Option ℕ) → Classes s (set_number s t l o)
unfolding set_number
set_number_class s t l o = body_same class_part s t _ refl

leave_class : (s : State) (c t : ℕ) (place : Place) → Classes s (leave s c t place)
unfolding leave
leave_class s c t place = record { each = (written s t (record { body = departed (cpu_of s c).count (thread_of s t).body; place = place }) refl).each }

put_class : (w : Work) (s : State) (n t : ℕ) (at : Put) → Classes s (put w s n t at)
unfolding put
put_class w s n t at = then_classes s (with_place s t (place_put w n t at)) _ (written s t _ refl) (mark_over_same class_part _ _ _)

put_where_class : (w : Work) (s : State) (n t : ℕ) (at : Option Put) → Classes s (put_where w s n t at)
unfolding put_where
put_where_class w s n t None = all_same class_part s
put_where_class w s n t (Some at) = put_class w s n t at

either_class : (s r q : State) (b : Bool) → Classes s r → Classes s q → Classes s (if b then r else q)
either_class s r q true a b = a
either_class s r q false a b = b

charge_class : (s : State) (c t : ℕ) (expired : Bool) → Classes s (charge s c t expired)
unfolding charge
charge_class s c t expired = either_class s _ _ _ (then_classes s (send_back s t) _ (send_back_class s t) (set_mark_same class_part _ c _)) (all_same class_part s)

reordered_at_class : (w : Work) (s : State) (n t old : ℕ) (at : Option Put) (place : Place) → Classes s (reordered_at w s n t old at place)
reordered_at_class w s n t old at (Running x) = either_class s _ _ (nat_lt (eff_of s t) old) (remark_same class_part s x.0) (all_same class_part s)
reordered_at_class w s n t old at _ = put_where_class w s n t at

reordered_class : (w : Work) (s : State) (n t old : ℕ) (at : Option Put) → Classes s (reordered w s n t old at)
unfolding reordered
reordered_class w s n t old at = reordered_at_class w s n t old at (thread_of s t).place

-- At most the class of one thread changes.

pub record But (o : Option ℕ) (s r : State) : Type 0 where
  pub each : (u : ℕ) → (o ≡ Some u → ⊥) → (thread_of r u).body.class ≡ (thread_of s u).body.class

but_same : (o : Option ℕ) (s r : State) → Classes s r → But o s r
but_same o s r a = record { each = λ u other. a.each u }

same_but : (o : Option ℕ) (s r q : State) → Classes s r → But o r q → But o s q
same_but o s r q a b = record { each = λ u other. b.each u other ∙ a.each u }

but_then : (o : Option ℕ) (s r q : State) → But o s r → Classes r q → But o s q
but_then o s r q a b = record { each = λ u other. b.each u ∙ a.each u other }

set_class_but : (s : State) (t : ℕ) (class : ClassState) → But (Some t) s (set_class s t class)
unfolding set_class
set_class_but s t class = record { each = λ u other. ap class_part (get_or-set_other s.threads t u _ no_thread (λ e. other (ap Some (sym e)))) }

class_counts_but : (w : Work) (s : State) (c t : ℕ) → But (Some t) s (class_counts w s c t)
class_counts_but w s c t = but_then (Some t) s (set_class s t _) _ (set_class_but s t _) (charge_class _ c t _)

preempted_but : (w : Work) (s : State) (n : ℕ) (c : CpuId) (t : ℕ) (end : End) → But (Some t) s (preempted w s n c t end)
unfolding preempted
preempted_but w s n c t end = but_then (Some t) s (set_class s t _) _ (set_class_but s t _) (leave_class _ c.0 t _)

woken_but : (w : Work) (s : State) (n t : ℕ) (at : Put) → But (Some t) s (woken w s n t at)
unfolding woken
woken_but w s n t at = but_then (Some t) s (set_class s t _) _ (set_class_but s t _) (put_class w _ n t at)

granted_to_writer_but : (w : Work) (s : State) (n : ℕ) (c : CpuId) (l : LockId) (u : ℕ) (at : Put) → But (Some u) s (granted_to_writer w s n c l u at)
unfolding granted_to_writer
granted_to_writer_but w s n c l u at =
    let x : State = set_number (finish_op w (hold (with_lock s l.0 (Owned (thread_id u))) u l) u) u l (others_waiting s l u) in
    let before : Classes s x = then_classes s (with_lock s l.0 (Owned (thread_id u))) _ (lock_same class_part s l.0 _) (then_classes _ _ _ (hold_class _ u l)
    (then_classes _ _ _ (finish_op_class w _ u) (set_number_class _ u l (others_waiting s l u)))) in
    but_then (Some u) s (woken w x n u at) _ (same_but (Some u) s x _ before (woken_but w x n u at)) (set_duty_same class_part _ c.0 _)

granted_to_reader_but : (w : Work) (s : State) (n : ℕ) (l : LockId) (u : ℕ) (at : Put) → But (Some u) s (granted_to_reader w s n l u at)
unfolding granted_to_reader
granted_to_reader_but w s n l u at =
    let x : State = finish_op w (hold (with_lock s l.0 (one_reader_more (lock_of s l.0))) u l) u in
    let before : Classes s x = then_classes s (with_lock s l.0 (one_reader_more (lock_of s l.0))) _ (lock_same class_part s l.0 _) (then_classes _ _ _ (hold_class _ u l) (finish_op_class w _ u)) in
    same_but (Some u) s x _ before (woken_but w x n u at)

granted_but : (w : Work) (s : State) (n : ℕ) (c : CpuId) (l : LockId) (u : ℕ) (at : Put) (d : Duty) → But (Some u) s (granted w s n c l u at d)
granted_but w s n c l u at (duty.GrantWriter m) = granted_to_writer_but w s n c l u at
granted_but w s n c l u at _ = granted_to_reader_but w s n l u at

aged_but : (w : Work) (s : State) (n : ℕ) (c : CpuId) (t : ℕ) → But (Some t) s (aged w s n c t)
unfolding aged
aged_but w s n c t =
    but_then (Some t) s (set_class s t (aged_class w (thread_of s t).body.class)) _ (set_class_but s t _)
    (then_classes _ (lifted w (set_class s t (aged_class w (thread_of s t).body.class)) n c t (eff_of s t)) _
    (either_class _ _ _ (eff_of (set_class s t (aged_class w (thread_of s t).body.class)) t == eff_of s t) (all_same class_part _) (put_class w _ n t _)) (set_duty_same class_part _ c.0 _))

changed_by_but : (w : Work) (s : State) (n : ℕ) (c : CpuId) (u : ThreadId) (at : Option Put) (r : Result ClassParms Denied) → But (Some u.0) s (changed_by w s n c u at r)
changed_by_but w s n c u at (Err d) = but_same (Some u.0) s s (all_same class_part s)
changed_by_but w s n c u at (Ok parms) =
    but_then (Some u.0) s (set_class s u.0 (new_class w s u.0 parms)) _ (set_class_but s u.0 _)
    (then_classes _ (reordered w (set_class s u.0 (new_class w s u.0 parms)) n u.0 (eff_of s u.0) at) _ (reordered_class w _ n u.0 _ at) (walk_from_same class_part _ c u _))

changed_on_but : (w : Work) (s : State) (n : ℕ) (c : CpuId) (t : ℕ) (u : ThreadId) (at : Option Put) (o : Option Op) → But (Some u.0) s (changed_on w s n c t u at o)
changed_on_but w s n c t u at (Some (op.Prio v r)) = changed_by_but w s n c u at (answer_to w s t u.0 r)
changed_on_but w s n c t u at _ = but_same (Some u.0) s s (all_same class_part s)

-- Each event.

abbrev pub woken_thread : Option (ThreadId × Put) → Option ℕ
woken_thread None = None
woken_thread (Some u) = Some u.0.0

abbrev pub changed_thread : ThreadId → PrioAnswer → Option ℕ
changed_thread u (Changed p at) = Some u.0
changed_thread u (Refused d) = None

-- the thread whose class state a deed may change, and an event
abbrev pub classes : Deed → Option ℕ
classes (CountsClass t) = Some t
classes (GoesBack t end) = Some t
classes (WakesUp t at) = Some t
classes (WakesIf u) = woken_thread u
classes (Rouses k u) = woken_thread u
classes (GrantsLock l u at) = Some u
classes (Lifts t) = Some t
classes (Reclasses t u answer) = changed_thread u answer
classes _ = None

abbrev pub class_thread : Event → Option ℕ
class_thread e = first classes (deeds e)

-- of one thread at most
classes_one : (e : Event) → at_most_one classes (deeds e) ≡ true
classes_one (Wake t k None) = refl
classes_one (Wake t k (Some u)) = refl
classes_one (Rouse k None) = refl
classes_one (Rouse k (Some u)) = refl
classes_one (Prio t u (Changed p at)) = refl
classes_one (Prio t u (Refused d)) = refl
classes_one _ = refl

abbrev leaves_class : Kind → Bool
leaves_class Kind.Classed = false
leaves_class _ = true

class_left : (k : Kind) → leaves_class k ≡ true → Leaves class_part k
class_left Kind.Classed is = cc
class_left Kind.Ran is = ran_left class_part (λ x ops. refl) (λ x n. refl)
class_left _ is = λ x y. refl

module _ (w : Work) (n : ℕ) (c : CpuId) where
  deed_class : (s : State) (d : Deed) → list_all leaves_class (kinds d) ≡ true → Classes s (did w n c s d)
  deed_class s d is = deed_leaves class_part leaves_class class_left w n c s d is

  deed_same : (s : State) (d : Deed) → classes d ≡ None → Classes s (did w n c s d)
  unfolding roused
  deed_same s (CountsClass t) none = cc
  deed_same s (GoesBack t end) none = cc
  deed_same s (WakesUp t at) none = cc
  deed_same s (WakesIf None) none = all_same class_part s
  deed_same s (WakesIf (Some u)) none = cc
  deed_same s (Rouses k None) none = set_duty_same class_part s c.0 _
  deed_same s (Rouses k (Some u)) none = cc
  deed_same s (GrantsLock l u at) none = cc
  deed_same s (Lifts t) none = cc
  deed_same s (Reclasses t u (Changed p at)) none = cc
  deed_same s (Reclasses t u (Refused d)) none = all_same class_part s
  deed_same s d none = deed_class s d refl

  deed_but : (s : State) (d : Deed) → But (classes d) s (did w n c s d)
  unfolding roused
  deed_but s (CountsClass t) = class_counts_but w s c.0 t
  deed_but s (GoesBack t end) = preempted_but w s n c t end
  deed_but s (WakesUp t at) = woken_but w s n t at
  deed_but s (WakesIf None) = but_same None s s (all_same class_part s)
  deed_but s (WakesIf (Some u)) = woken_but w s n u.0.0 u.1
  deed_but s (Rouses k None) = but_same None s _ (set_duty_same class_part s c.0 _)
  deed_but s (Rouses k (Some u)) = but_then (Some u.0.0) s (woken w s n u.0.0 u.1) _ (woken_but w s n u.0.0 u.1) (roused_on_same class_part _ c _)
  deed_but s (GrantsLock l u at) = granted_but w s n c l u at (cpu_of s c.0).duty
  deed_but s (Lifts t) = aged_but w s n c t
  deed_but s (Reclasses t u (Changed p at)) = changed_on_but w s n c t u at (op_of w t (thread_of s t).body)
  deed_but s (Reclasses t u (Refused d)) = but_same None s s (all_same class_part s)
  deed_but s d = but_same None s _ (deed_class s d refl)

  does_but : (s : State) (d : Deed) (t : ℕ) → classes d ≡ Some t → ⊤ → But (Some t) s (did w n c s d)
  does_but s d t is fit = subst (λ o. But o s (did w n c s d)) is (deed_but s d)

effect_but : (w : Work) (s : State) (n : ℕ) (c : CpuId) (e : Event) → But (class_thread e) s (effect w s n c e)
effect_but w s n c e = subst (λ r. But (class_thread e) s r) (sym (effect_did w s n c e)) (by (first classes (deeds e)) refl)
  where
    by : (o : Option ℕ) → first classes (deeds e) ≡ o → But o s (all_did w n c s (deeds e))
    by None none = but_same None s _ (none_first w n c classes (all_same class_part) (then_same class_part) (λ r q x t. same_but (Some t) r q x) (λ r q x t. but_then (Some t) r q x) {Fit = λ r t. ⊤} (λ r d t fit. tt) (deed_same w n c) (does_but w n c) s (deeds e) (classes_one e) none)
    by (Some t) some = one_first w n c classes (all_same class_part) (then_same class_part) (λ r q x t. same_but (Some t) r q x) (λ r q x t. but_then (Some t) r q x) {Fit = λ r t. ⊤} (λ r d t fit. tt) (deed_same w n c) (does_but w n c) s (deeds e) t (classes_one e) some tt

pub after_but : (w : Work) (s : State) (n : ℕ) (c : CpuId) (e : Event) → But (class_thread e) s (after w s n c e)
unfolding after drop_ageing
after_but w s n c e = same_but (class_thread e) s (set_duty s c.0 _) _ (set_duty_same class_part s c.0 _) (effect_but w _ n c e)
