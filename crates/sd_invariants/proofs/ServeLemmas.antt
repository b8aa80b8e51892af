-- Each duty to pass on a lock goes on serving somebody, through each event.
use Rattle.std.proofs.Common.{◌≡◌, ◌≢◌, ℕ, zero, suc, ◌<◌, Bool, true, false, List, [], ◌∷◌, length, Some, refl, sym, ap, ◌∙◌, subst, arith, ◌⊎◌, inl, inr}
use Rattle.std.specs.Prelude.{slice_get, nat_lt}
use Rattle.std.proofs.lemmas.Bool.{cases_eq}
use Rattle.std.proofs.lemmas.Bool.Decides.{nat_tests}
use Rattle.sd_basics.proofs.Truths.{and_right}
use Rattle.sd_types.specs.declared.numbers.ChanId.{ChanId}
use Rattle.sd_types.specs.declared.numbers.CpuId.{CpuId}
use Rattle.sd_types.specs.declared.numbers.LockId.{LockId}
use Rattle.sd_types.specs.declared.numbers.ThreadId.{ThreadId}
use Rattle.sd_types.specs.declared.numbers.Side.{Side}
use Rattle.sd_types.specs.declared.numbers.Side.TheVariants.{Writer, Reader}
use Rattle.sd_types.specs.declared.events.Duty.{Duty}
use Rattle.sd_types.specs.declared.events.Duty.TheVariants as duty
use Rattle.sd_types.specs.declared.events.Event.{Event}
use Rattle.sd_types.specs.declared.events.Event.TheVariants.{Enter, Read, Write, Block, Exit, Unblock, Grant, Passed, CvWait}
use Rattle.sd_types.specs.declared.events.Put.{Put}
use Rattle.sd_types.specs.declared.scripts.Op.TheVariants as op
use Rattle.sd_types.specs.declared.works.LockKind.{LockKind}
use Rattle.sd_types.specs.declared.works.LockKind.TheVariants.{Mutex, Rwlock}
use Rattle.sd_types.specs.declared.works.Work.{Work}
use Rattle.sd_types.specs.Works.{is_mutex, is_rwlock}
use Rattle.sd_state.specs.declared.states.LockState.{LockState}
use Rattle.sd_state.specs.declared.states.LockState.TheVariants.{Free, Owned, ReadHeld, Passing}
use Rattle.sd_state.specs.declared.states.Place.TheVariants.{Waiting}
use Rattle.sd_state.specs.declared.states.State.{State}
use Rattle.sd_state.specs.States.{thread_of, cpu_of}
use Rattle.sd_state.specs.Operations.{op_of}
use Rattle.sd_machine.specs.Threads.{thread_id, lock_of, best_waiter, has_waiters}
use Rattle.sd_machine.specs.Changes.{back_key, set_duty, place_put}
use Rattle.sd_machine.specs.Locking.{kind_of, side_of, blocked}
use Rattle.sd_machine.specs.Events.{effect, after, drop_ageing, dropped_duty}
use Rattle.sd_machine.specs.Holders as H
use Rattle.sd_frames.specs.Causes.{Acts, IsCause}
use Rattle.sd_frames.specs.Passing.{pass_of}
use Rattle.sd_invariants.specs.Holding.{lock_state, table, Agreed, DutyServes, DutiesServe}
use Rattle.sd_frames.specs.Moves.{put_step, step_of}
use Rattle.sd_frames.proofs.Parts.{same_is_put}
use Rattle.sd_frames.proofs.CpuWords as C
use Rattle.sd_frames.proofs.LockTable as T
use Rattle.sd_frames.proofs.LockTable.{is_lockless, pass_duty, served_part, served_marks, duty_part}
use Rattle.sd_frames.proofs.Found.{runner_found, waiter_found}
use Rattle.sd_frames.proofs.PlaceTable.{Stepped}
use Rattle.sd_invariants.proofs.Movers.{ends_wait, mover_of}
use Rattle.sd_invariants.proofs.Waiters.{Stays, quiet_stays, others_stay, side_waits, stays_has, stays_best}
use Rattle.sd_state.proofs.Declared.{declared}
use Rattle.sd_invariants.proofs.Works.{op_named}
use Rattle.sd_machine.proofs.HolderLemmas.{count_one}
use Rattle.sd_invariants.proofs.AgreedAfter.{IsReady, IsNext, holds_it}
use Rattle.sd_invariants.proofs.AgreedEvents.{cause_pass, kind_there, lockless}
use Rattle.sd_frames.proofs.ReleaseLemmas.{Suits, Outcome, exit_outcome, cv_wait_outcome}
use Rattle.sd_frames.proofs.ReleaseLemmas.Outcome.{freed, passed_on, fewer, left, nothing}
use Rattle.sd_frames.proofs.PassLemmas.{drop_duties, Woken, Granted, Passed as Handed, unblock_outcome, grant_outcome, pass_outcome}
use Rattle.sd_frames.proofs.PassLemmas.Woken.{more, last}
use Rattle.sd_frames.proofs.PassLemmas.Granted.{to_writer, to_reader}
use Rattle.sd_frames.proofs.PassLemmas.Passed.{to_readers, writer_next, to_nobody, otherwise}
use Rattle.std.proofs.lemmas.Option.{slice_get-map}
use Rattle.sd_types.proofs.ScriptLemmas.{gives_exit, gives_wait}

-- One duty.

serves_pass : (w : Work) (s : State) (d : Duty) → DutyServes w s d → DutyServes w s (pass_duty d)
serves_pass w s (duty.WakeMutex l) is = is
serves_pass w s (duty.GrantWriter l) is = is
serves_pass w s (duty.GrantReaders l) is = is
serves_pass w s duty.Nothing is = tt
serves_pass w s (duty.Age u) is = tt
serves_pass w s (duty.Walk l seek k) is = tt
serves_pass w s (duty.Rouse k below) is = tt

serves_duty : (w : Work) (s : State) (d : Duty) → DutyServes w s (pass_duty d) → DutyServes w s d
serves_duty w s (duty.WakeMutex l) is = is
serves_duty w s (duty.GrantWriter l) is = is
serves_duty w s (duty.GrantReaders l) is = is
serves_duty w s duty.Nothing is = tt
serves_duty w s (duty.Age u) is = tt
serves_duty w s (duty.Walk l seek k) is = tt
serves_duty w s (duty.Rouse k below) is = tt

serves_on : (w : Work) (s r : State) (d : Duty) → length r.threads ≡ length s.threads → ((p : H.Pass) → pass_of d ≡ Some p → Stays s r p.lock) → DutyServes w s d → DutyServes w r d
serves_on w s r (duty.WakeMutex l) many stays is = (is.0, stays_has s r many l.0 (stays (record { lock = l.0; alone = true }) refl) is.1)
serves_on w s r (duty.GrantWriter l) many stays is = (is.0, stays_best s r many l.0 (stays (record { lock = l.0; alone = true }) refl) Writer is.1)
serves_on w s r (duty.GrantReaders l) many stays is = is
serves_on w s r duty.Nothing many stays is = tt
serves_on w s r (duty.Age u) many stays is = tt
serves_on w s r (duty.Walk l seek k) many stays is = tt
serves_on w s r (duty.Rouse k below) many stays is = tt

-- All duties.

serves_kept : (w : Work) (s r : State) → length r.threads ≡ length s.threads → C.Kept served_part s r → ((l : ℕ) → Stays s r l) → DutiesServe w s → DutiesServe w r
serves_kept w s r many kept stays serves = λ c.
    serves_duty w r (cpu_of r c).duty (subst (λ d. DutyServes w r d) (sym (kept.each c)) (serves_pass w r (cpu_of s c).duty (serves_on w s r (cpu_of s c).duty many (λ p is. stays p.lock) (serves c))))

serves_put : (w : Work) (s r : State) (c : ℕ) (d : Duty) → length r.threads ≡ length s.threads → T.DutyIs s r c d
    → ((e : ℕ) (p : H.Pass) → e ≢ c → (table s).passes e ≡ Some p → Stays s r p.lock) → DutiesServe w s → DutyServes w r d → DutiesServe w r
serves_put w s r c d many put stays serves here = λ e. elim (cases_eq e c) [
  | inl is ↦ subst (λ x. DutyServes w r x) (sym (ap (λ i. (cpu_of r i).duty) is ∙ put.put.at)) here
  | inr other ↦ subst (λ x. DutyServes w r x) (sym (put.put.others e other)) (serves_on w s r (cpu_of s e).duty many (λ p is. stays e p other is) (serves e))
]

duties_served : (s r : State) → C.Kept duty_part s r → C.Kept served_part s r
duties_served s r kept = record { each = λ d. ap pass_duty (kept.each d) }

kept_is : (s r : State) (c : ℕ) (d : Duty) → C.Kept duty_part s r → (cpu_of s c).duty ≡ d → T.DutyIs s r c d
kept_is s r c d kept is = record { put = same_is_put c d kept.each is }

-- two processors pass on two locks
two_passes : (s : State) (c e : ℕ) (p q : H.Pass) → Agreed s → (table s).passes c ≡ Some p → (table s).passes e ≡ Some q → e ≢ c → q.lock ≢ p.lock
two_passes s c e p q agreed here there other same =
    let (k, at_here, k_is) = agreed.passed c p here in
    let (j, at_there, j_is) = agreed.passed e q there in
    let both : H.Lock.Passing e j ≡ H.Lock.Passing c k = sym at_there ∙ ap (λ l. (table s).lock l) same ∙ at_here in
    other (let is : e ≡ c = cc in is)

-- Kinds of locks.

kind_at : (xs : List LockKind) (i : ℕ) → i < length xs → is_mutex (slice_get xs i) ≡ false → is_rwlock (slice_get xs i) ≡ true
kind_at [] i inside other = absurd (omega arith)
kind_at (Mutex ∷ xs) zero inside other = cc
kind_at (Rwlock ∷ xs) zero inside other = refl
kind_at (x ∷ xs) (suc i) inside other = kind_at xs i (omega arith) other

pub kind_is : (w : Work) (l : LockId) → slice_get (declared w).locks l.0 ≡ kind_of w l
kind_is w l = slice_get-map (λ d. d.1) w.locks l.0

pub not_mutex : (w : Work) (l : LockId) → l.0 < length (declared w).locks → is_mutex (kind_of w l) ≡ false → is_rwlock (kind_of w l) ≡ true
not_mutex w l inside other = subst (λ k. is_rwlock k ≡ true) (kind_is w l) (kind_at (declared w).locks l.0 inside (ap is_mutex (kind_is w l) ∙ other))

exit_inside : (w : Work) (s : State) (c t : ℕ) (l : LockId) → Acts w s c t (Some (op.Exit l)) → l.0 < length (declared w).locks
exit_inside w s c t l acts =
    let inside : nat_lt l.0 (length (declared w).locks) ≡ true = op_named w t (thread_of s t).body.op (op.Exit l) acts.stands in
    grind (arith, nat_tests)

cv_wait_inside : (w : Work) (s : State) (c t : ℕ) (k : ChanId) (l : LockId) → Acts w s c t (Some (op.CvWait k l)) → l.0 < length (declared w).locks
cv_wait_inside w s c t k l acts = kind_there is_mutex (declared w).locks l.0 refl (and_right _ (is_mutex (slice_get (declared w).locks l.0)) (op_named w t (thread_of s t).body.op (op.CvWait k l) acts.stands))

same_stays : (s : State) (c : ℕ) (e : Event) (l : ℕ) → Stays s (drop_ageing s c e) l
unfolding drop_ageing set_duty
same_stays s c e l = record { each = λ u on. refl }

drop_serves : (w : Work) (s : State) (c : ℕ) (e : Event) → DutiesServe w s → DutiesServe w (drop_ageing s c e)
unfolding drop_ageing set_duty
drop_serves w s c e serves = serves_kept w s (drop_ageing s c e) refl (T.drop_served s c e) (same_stays s c e) serves

-- The events that take a lock, and what is passed on.

enter_served : (w : Work) (s : State) (n : ℕ) (c : CpuId) (t : ThreadId) (l : LockId) → C.Kept served_part s (after w s n c (Enter t l))
unfolding after effect
enter_served w s n c t l = C.then_kept served_part s (drop_ageing s c.0 (Enter t l)) _ (T.drop_served s c.0 (Enter t l)) (C.owned_kept served_part served_marks w _ t.0 l)

write_served : (w : Work) (s : State) (n : ℕ) (c : CpuId) (t : ThreadId) (l : LockId) → C.Kept served_part s (after w s n c (Write t l))
unfolding after effect
write_served w s n c t l = C.then_kept served_part s (drop_ageing s c.0 (Write t l)) _ (T.drop_served s c.0 (Write t l)) (C.owned_kept served_part served_marks w _ t.0 l)

read_served : (w : Work) (s : State) (n : ℕ) (c : CpuId) (t : ThreadId) (l : LockId) → C.Kept served_part s (after w s n c (Read t l))
unfolding after effect
read_served w s n c t l = C.then_kept served_part s (drop_ageing s c.0 (Read t l)) _ (T.drop_served s c.0 (Read t l)) (C.read_kept served_part served_marks w _ t.0 l)

block_served : (w : Work) (s : State) (n : ℕ) (c : CpuId) (t : ThreadId) (l : LockId) → pass_duty (cpu_of s c.0).duty ≡ duty.Nothing → C.Kept served_part s (after w s n c (Block t l))
unfolding after effect blocked
block_served w s n c t l free =
    let a = C.then_kept served_part s (drop_ageing s c.0 (Block t l)) _ (T.drop_served s c.0 (Block t l)) (C.leave_kept served_part served_marks _ c.0 t.0 (Waiting l (side_of (op_of w t.0 (thread_of (drop_ageing s c.0 (Block t l)) t.0).body)) (back_key n))) in
    C.then_kept served_part s _ _ a (T.duty_served _ c.0 (duty.Walk l (thread_id t.0) (back_key n)) (sym (a.each c.0 ∙ free)))

module _ (w : Work) (s : State) (n : ℕ) (c : CpuId) (ready : IsReady w s) (c_in : c.0 < length s.cpus) where
  pub stays_all : (e : Event) → ends_wait e ≡ false → IsCause w s c.0 e → IsNext w s (after w s n c e) n c e → (l : ℕ) → Stays s (after w s n c e) l
  stays_all e quiet cause next l = quiet_stays (step_of w s n c e) s (after w s n c e) next.steps (mover_of w s n c e quiet ready.fits ready.agreed cause) l

  lockless_serves : (e : Event) → is_lockless e ≡ true → IsCause w s c.0 e → IsNext w s (after w s n c e) n c e → DutiesServe w (after w s n c e)
  lockless_serves e quiet cause next =
      serves_kept w s (after w s n c e) next.shape.threads (T.quiet_served w s n c e quiet (T.unserved (cpu_of s c.0).duty (cause_pass w s c.0 e quiet cause)))
      (stays_all e (lockless e quiet).ends cause next) ready.serves

  -- where a hold is given up
  suits_serve : (s0 r : State) (l : LockId) (x : LockState) (d : Duty) → length r.threads ≡ length s0.threads → Stays s0 r l.0 → l.0 < length (declared w).locks → lock_of s l.0 ≡ x → Suits w s0 l x d → has_waiters s0 l.0 ≡ true → DutyServes w r d
  suits_serve s0 r l x d many stays inside at suits some = elim suits.one_of [
    | inl is ↦ subst (λ y. DutyServes w r y) (sym is) (suits.mutex is, stays_has s0 r many l.0 stays some)
    | inr (inl is) ↦ subst (λ y. DutyServes w r y) (sym is) (rwlock (suits.rwlock (inl is)), stays_best s0 r many l.0 stays Writer (suits.writer some is))
    | inr (inr is) ↦ subst (λ y. DutyServes w r y) (sym is) (rwlock (suits.rwlock (inr is)))
  ]
    where
      rwlock : (is_mutex (kind_of w l) ≡ false) ⊎ ((m : ℕ) × (x ≡ ReadHeld m)) → is_rwlock (kind_of w l) ≡ true
      rwlock (inl other) = not_mutex w l inside other
      rwlock (inr held) = (ready.reads l held.0 (at ∙ held.1)).kind

  gives_serve : (s0 r : State) (l : LockId) (x : LockState) → length r.threads ≡ length s0.threads → ((m : ℕ) → Stays s0 r m) → l.0 < length (declared w).locks → lock_of s l.0 ≡ x → lock_of s l.0 ≢ Free
      → DutiesServe w s0 → Outcome w s0 r c.0 l x → DutiesServe w r
  gives_serve s0 r l x many stays inside at busy serves (freed locks duties none kind) = serves_kept w s0 r many (duties_served s0 r duties) stays serves
  gives_serve s0 r l x many stays inside at busy serves (passed_on d locks duties suits some kind) =
      serves_put w s0 r c.0 d many duties (λ e p other is. stays p.lock) serves (suits_serve s0 r l x d many (stays l.0) inside at suits some)
  gives_serve s0 r l x many stays inside at busy serves (fewer m is two locks duties) = serves_kept w s0 r many (duties_served s0 r duties) stays serves
  gives_serve s0 r l x many stays inside at busy serves (left d k is locks duties) = serves_kept w s0 r many (duties_served s0 r duties) stays serves
  gives_serve s0 r l x many stays inside at busy serves (nothing is) = absurd (busy (at ∙ is))

  exit_serves : (t : ThreadId) (l : LockId) → lock_of s l.0 ≢ Free → IsCause w s c.0 (Exit t l) → IsNext w s (after w s n c (Exit t l)) n c (Exit t l) → DutiesServe w (after w s n c (Exit t l))
  unfolding drop_ageing set_duty
  exit_serves t l busy cause next =
      gives_serve (drop_ageing s c.0 (Exit t l)) (after w s n c (Exit t l)) l (lock_of s l.0) next.shape.threads (λ m. record { each = (stays_all (Exit t l) refl cause next m).each }) (exit_inside w s c.0 t.0 l cause) refl busy
      (drop_serves w s c.0 (Exit t l) ready.serves) (exit_outcome w s n c t l c_in)

  cv_wait_serves : (t : ThreadId) (k : ChanId) (l : LockId) → lock_of s l.0 ≢ Free → IsCause w s c.0 (CvWait t k l) → IsNext w s (after w s n c (CvWait t k l)) n c (CvWait t k l) → DutiesServe w (after w s n c (CvWait t k l))
  unfolding drop_ageing set_duty
  cv_wait_serves t k l busy cause next =
      gives_serve (drop_ageing s c.0 (CvWait t k l)) (after w s n c (CvWait t k l)) l (lock_of s l.0) next.shape.threads (λ m. record { each = (stays_all (CvWait t k l) refl cause next m).each }) (cv_wait_inside w s c.0 t.0 k l cause) refl busy
      (drop_serves w s c.0 (CvWait t k l) ready.serves) (cv_wait_outcome w s n c t k l c_in)

  -- where a wait ends
  pub wait_ends : (e : Event) (u : ThreadId) (at : Put) (l : LockId) (side : Side) → step_of w s n c e ≡ put_step w n u.0 at → best_waiter s l.0 side ≡ Some u.0 → IsNext w s (after w s n c e) n c e → (m : ℕ) → m ≢ l.0 → Stays s (after w s n c e) m
  wait_ends e u at l side is best next m other =
      others_stay u.0 (place_put w n u.0 at) s (after w s n c e) l.0 (subst (λ step. Stepped step s (after w s n c e)) is next.steps)
      (let found = waiter_found s l.0 side u.0 best in side_waits l.0 side (thread_of s u.0).place found.stands) m other

  other_passes : (l : LockId) (alone : Bool) (r : State) → (table s).passes c.0 ≡ Some (record { lock = l.0; alone = alone }) → ((m : ℕ) → m ≢ l.0 → Stays s r m)
      → (e : ℕ) (p : H.Pass) → e ≢ c.0 → (table s).passes e ≡ Some p → Stays s r p.lock
  other_passes l alone r here stays e p other is = stays p.lock (two_passes s c.0 e (record { lock = l.0; alone = alone }) p ready.agreed here is other)

  -- a duty that is no ageing, and the duties of the others, are the same where an ageing would be dropped
  drop_same : (e : Event) (d : Duty) → (cpu_of s c.0).duty ≡ d → dropped_duty e d ≡ d → C.Kept duty_part s (drop_ageing s c.0 e)
  drop_same e d is same = drop_duties s c.0 e (ap (λ x. dropped_duty e x) is ∙ same ∙ sym is)

  unblock_serves : (l : LockId) (u : ThreadId) (at : Put) → IsCause w s c.0 (Unblock l u at) → IsNext w s (after w s n c (Unblock l u at)) n c (Unblock l u at) → DutiesServe w (after w s n c (Unblock l u at))
  unblock_serves l u at cause next = by (unblock_outcome w s n c l u at c_in)
    where
      stays : (m : ℕ) → m ≢ l.0 → Stays s (after w s n c (Unblock l u at)) m
      stays = wait_ends (Unblock l u at) u at l Writer refl cause.1 next

      same : C.Kept duty_part s (drop_ageing s c.0 (Unblock l u at))
      same = drop_same (Unblock l u at) (duty.WakeMutex l) cause.0 refl

      others : (e : ℕ) (p : H.Pass) → e ≢ c.0 → (table s).passes e ≡ Some p → Stays s (after w s n c (Unblock l u at)) p.lock
      others = other_passes l true (after w s n c (Unblock l u at)) (ap pass_of cause.0) stays

      kind : is_mutex (kind_of w l) ≡ true
      kind = (subst (λ d. DutyServes w s d) cause.0 (ready.serves c.0)).0

      by : Woken (drop_ageing s c.0 (Unblock l u at)) (after w s n c (Unblock l u at)) c.0 l → DutiesServe w (after w s n c (Unblock l u at))
      by (more locks duties some) =
          serves_put w s (after w s n c (Unblock l u at)) c.0 (duty.WakeMutex l) next.shape.threads (kept_is s _ c.0 (duty.WakeMutex l) (C.then_kept duty_part s (drop_ageing s c.0 (Unblock l u at)) _ same duties) cause.0) others ready.serves (kind, some)
      by (last locks duties none) =
          serves_put w s (after w s n c (Unblock l u at)) c.0 duty.Nothing next.shape.threads (T.duties_then s (drop_ageing s c.0 (Unblock l u at)) _ c.0 duty.Nothing same duties) others ready.serves tt

  grant_writer_serves : (l : LockId) (u : ThreadId) (at : Put) → (cpu_of s c.0).duty ≡ duty.GrantWriter l → best_waiter s l.0 Writer ≡ Some u.0
      → IsNext w s (after w s n c (Grant l u at)) n c (Grant l u at) → DutiesServe w (after w s n c (Grant l u at))
  grant_writer_serves l u at is best next = by (grant_outcome w s n c l u at c_in (inl now))
    where
      same : C.Kept duty_part s (drop_ageing s c.0 (Grant l u at))
      same = drop_same (Grant l u at) (duty.GrantWriter l) is refl

      now : (cpu_of (drop_ageing s c.0 (Grant l u at)) c.0).duty ≡ duty.GrantWriter l
      now = same.each c.0 ∙ is

      others : (e : ℕ) (p : H.Pass) → e ≢ c.0 → (table s).passes e ≡ Some p → Stays s (after w s n c (Grant l u at)) p.lock
      others = other_passes l true (after w s n c (Grant l u at)) (ap pass_of is) (wait_ends (Grant l u at) u at l Writer refl best next)

      by : Granted (drop_ageing s c.0 (Grant l u at)) (after w s n c (Grant l u at)) c.0 l u.0 (cpu_of (drop_ageing s c.0 (Grant l u at)) c.0).duty → DutiesServe w (after w s n c (Grant l u at))
      by (to_writer e locks duties) =
          serves_put w s (after w s n c (Grant l u at)) c.0 duty.Nothing next.shape.threads (T.duties_then s (drop_ageing s c.0 (Grant l u at)) _ c.0 duty.Nothing same duties) others ready.serves tt
      by (to_reader e locks duties) = absurd (unlike (sym now ∙ e))
        where
          unlike : duty.GrantWriter l ≡ duty.GrantReaders l → ⊥
          unlike bad = cc

  grant_readers_serves : (l : LockId) (u : ThreadId) (at : Put) → (cpu_of s c.0).duty ≡ duty.GrantReaders l → best_waiter s l.0 Reader ≡ Some u.0
      → IsNext w s (after w s n c (Grant l u at)) n c (Grant l u at) → DutiesServe w (after w s n c (Grant l u at))
  grant_readers_serves l u at is best next = by (grant_outcome w s n c l u at c_in (inr now))
    where
      same : C.Kept duty_part s (drop_ageing s c.0 (Grant l u at))
      same = drop_same (Grant l u at) (duty.GrantReaders l) is refl

      now : (cpu_of (drop_ageing s c.0 (Grant l u at)) c.0).duty ≡ duty.GrantReaders l
      now = same.each c.0 ∙ is

      others : (e : ℕ) (p : H.Pass) → e ≢ c.0 → (table s).passes e ≡ Some p → Stays s (after w s n c (Grant l u at)) p.lock
      others = other_passes l false (after w s n c (Grant l u at)) (ap pass_of is) (wait_ends (Grant l u at) u at l Reader refl best next)

      by : Granted (drop_ageing s c.0 (Grant l u at)) (after w s n c (Grant l u at)) c.0 l u.0 (cpu_of (drop_ageing s c.0 (Grant l u at)) c.0).duty → DutiesServe w (after w s n c (Grant l u at))
      by (to_writer e locks duties) = absurd (unlike (sym now ∙ e))
        where
          unlike : duty.GrantReaders l ≡ duty.GrantWriter l → ⊥
          unlike bad = cc
      by (to_reader e locks duties) =
          serves_put w s (after w s n c (Grant l u at)) c.0 (duty.GrantReaders l) next.shape.threads (kept_is s _ c.0 (duty.GrantReaders l) (C.then_kept duty_part s (drop_ageing s c.0 (Grant l u at)) _ same duties) is) others ready.serves
          (subst (λ d. DutyServes w s d) is (ready.serves c.0))

  pass_serves : (l : LockId) → IsCause w s c.0 (Passed l) → IsNext w s (after w s n c (Passed l)) n c (Passed l) → DutiesServe w (after w s n c (Passed l))
  unfolding drop_ageing set_duty best_waiter
  pass_serves l cause next = by (pass_outcome w s n c l c_in)
    where
      same : C.Kept duty_part s (drop_ageing s c.0 (Passed l))
      same = drop_same (Passed l) (duty.GrantReaders l) cause.0 refl

      stays : (m : ℕ) → Stays s (after w s n c (Passed l)) m
      stays = stays_all (Passed l) refl cause next

      kind : is_rwlock (kind_of w l) ≡ true
      kind = subst (λ d. DutyServes w s d) cause.0 (ready.serves c.0)

      settled : (d : Duty) → T.DutyIs (drop_ageing s c.0 (Passed l)) (after w s n c (Passed l)) c.0 d → DutyServes w (after w s n c (Passed l)) d → DutiesServe w (after w s n c (Passed l))
      settled d duties here = serves_put w s (after w s n c (Passed l)) c.0 d next.shape.threads (T.duties_then s (drop_ageing s c.0 (Passed l)) _ c.0 d same duties) (λ e p other is. stays p.lock) ready.serves here

      was : (k : ℕ) × ((table s).lock l.0 ≡ H.Lock.Passing c.0 k) × (false ≡ true → k ≡ 0)
      was = ready.agreed.passed c.0 (record { lock = l.0; alone = false }) (ap pass_of cause.0)

      by : Handed (drop_ageing s c.0 (Passed l)) (after w s n c (Passed l)) c.0 l (lock_of s l.0) → DutiesServe w (after w s n c (Passed l))
      by (to_readers d k is one locks duties) = settled duty.Nothing duties tt
      by (writer_next d is locks duties some) = settled (duty.GrantWriter l) duties (kind, stays_best s (after w s n c (Passed l)) next.shape.threads l.0 (stays l.0) Writer some)
      by (to_nobody d is locks duties none) = settled duty.Nothing duties tt
      by (otherwise unlike) = absurd (no_such (lock_of s l.0) was.1 unlike)
        where
          no_such : (x : LockState) → lock_state x ≡ H.Lock.Passing c.0 was.0 → ((d : CpuId) (k : ℕ) → x ≢ Passing d k) → ⊥
          no_such Free is unlike = cc
          no_such (Owned o) is unlike = cc
          no_such (ReadHeld m) is unlike = cc
          no_such (Passing d k) is unlike = unlike d k refl

  -- a lock that is given up is not free
  pub held_busy : (t : ℕ) (l : LockId) → t < length s.threads → (table s).holds t l.0 ≡ true → lock_of s l.0 ≢ Free
  held_busy t l inside held free =
      let one = count_one (λ u. (table s).holds u l.0) t (length s.threads) inside held in
      let many = ready.agreed.holders l.0 in
      let none : H.holders_of ((table s).lock l.0) ≡ 0 = ap (λ y. H.holders_of (lock_state y)) free in
      omega arith

  pub exit_busy : (t : ThreadId) (l : LockId) → IsCause w s c.0 (Exit t l) → lock_of s l.0 ≢ Free
  exit_busy t l acts = held_busy t.0 l (runner_found s c.0 t.0 acts.runs).inside (holds_it w s n c ready t.0 (op.Exit l) l acts (gives_exit l))

  pub cv_wait_busy : (t : ThreadId) (k : ChanId) (l : LockId) → IsCause w s c.0 (CvWait t k l) → lock_of s l.0 ≢ Free
  cv_wait_busy t k l acts = held_busy t.0 l (runner_found s c.0 t.0 acts.runs).inside (holds_it w s n c ready t.0 (op.CvWait k l) l acts (gives_wait k l))

  taken_serves : (e : Event) → ends_wait e ≡ false → IsCause w s c.0 e → IsNext w s (after w s n c e) n c e → C.Kept served_part s (after w s n c e) → DutiesServe w (after w s n c e)
  taken_serves e quiet cause next served = serves_kept w s (after w s n c e) next.shape.threads served (stays_all e quiet cause next) ready.serves

  -- Each duty serves somebody after each event.
  pub after_serves : (e : Event) → IsCause w s c.0 e → IsNext w s (after w s n c e) n c e → DutiesServe w (after w s n c e)
  after_serves (Enter t l) cause next = taken_serves (Enter t l) refl cause next (enter_served w s n c t l)
  after_serves (Read t l) cause next = taken_serves (Read t l) refl cause next (read_served w s n c t l)
  after_serves (Write t l) cause next = taken_serves (Write t l) refl cause next (write_served w s n c t l)
  after_serves (Block t l) cause next = taken_serves (Block t l) refl cause next (block_served w s n c t l (T.free_served (cpu_of s c.0).duty cause.1.acts.free))
  after_serves (Exit t l) cause next = exit_serves t l (exit_busy t l cause) cause next
  after_serves (CvWait t k l) cause next = cv_wait_serves t k l (cv_wait_busy t k l cause) cause next
  after_serves (Unblock l u at) cause next = unblock_serves l u at cause next
  after_serves (Grant l u at) (inl cause) next = grant_writer_serves l u at cause.0 cause.1 next
  after_serves (Grant l u at) (inr cause) next = grant_readers_serves l u at cause.0 cause.1 next
  after_serves (Passed l) cause next = pass_serves l cause next
  after_serves e cause next = lockless_serves e refl cause next
