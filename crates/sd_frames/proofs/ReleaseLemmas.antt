-- What becomes of a lock whose hold is given up.
use Rattle.std.proofs.Common.{◌≡◌, ◌≢◌, ℕ, ◌-◌, ◌<◌, ◌≤◌, Bool, true, false, length, set, Option, Some, None, refl, sym, ◌∙◌, inl, inr, ◌⊎◌, subst, arith}
use Rattle.std.specs.Prelude.{if◌then◌else◌, nat_le, is_some}
use Rattle.std.proofs.lemmas.Bool.Decides.{nat_tests}
use Rattle.sd_types.specs.declared.numbers.ChanId.{ChanId}
use Rattle.sd_types.specs.declared.numbers.CpuId.{CpuId}
use Rattle.sd_types.specs.declared.numbers.LockId.{LockId}
use Rattle.sd_types.specs.declared.numbers.Side.TheVariants.{Writer, Reader}
use Rattle.sd_types.specs.declared.numbers.ThreadId.{ThreadId}
use Rattle.sd_types.specs.declared.events.Duty.{Duty}
use Rattle.sd_types.specs.declared.events.Duty.TheVariants as duty
use Rattle.sd_types.specs.declared.events.Event.{Event}
use Rattle.sd_types.specs.declared.events.Event.TheVariants as event
use Rattle.sd_types.specs.declared.works.Work.{Work}
use Rattle.sd_types.specs.Works.{is_mutex}
use Rattle.sd_state.specs.declared.states.LockState.{LockState}
use Rattle.sd_state.specs.declared.states.LockState.TheVariants.{Free, Owned, ReadHeld, Passing}
use Rattle.sd_state.specs.declared.states.State.{State}
use Rattle.sd_state.specs.States.{thread_of}
use Rattle.sd_machine.specs.Threads.{lock_of, with_lock, best_waiter, has_waiters, priority_of}
use Rattle.sd_machine.specs.Changes.{set_duty}
use Rattle.sd_machine.specs.Locking.{kind_of, writer_first, after_writer, after_reader, after_owner, free_or_passed, release_from}
use Rattle.sd_machine.specs.Events.{effect, after, drop_ageing}
use Rattle.sd_frames.specs.Passing.{pass_of}
use Rattle.sd_frames.proofs.LockTable as T
use Rattle.sd_frames.proofs.LockTable.{duty_part}
use Rattle.sd_frames.proofs.CpuWords as C
use Rattle.sd_machine.proofs.ShapeLemmas.{IsShaped, set_duty_shape}
use Rattle.sd_frames.proofs.Searches.{has_waiters_at, waiter_none}
use Rattle.std.proofs.lemmas.Bool.{false≢true}
use Rattle.sd_machine.specs.Threads.{is_waiting, is_waiting_at}
use Rattle.sd_state.specs.declared.states.Place.{Place}
use Rattle.sd_state.specs.declared.states.Place.TheVariants.{Waiting}

-- the duty to pass on a lock that was given up in this state suits the lock
pub record Suits (w : Work) (s : State) (l : LockId) (x : LockState) (d : Duty) : Type 0 where
  pub alone : Bool
  pub passes : pass_of d ≡ Some (record { lock = l.0; alone = alone })
  pub mutex : d ≡ duty.WakeMutex l → is_mutex (kind_of w l) ≡ true
  pub writer : has_waiters s l.0 ≡ true → d ≡ duty.GrantWriter l → best_waiter s l.0 Writer ≢ None
  pub rwlock : (d ≡ duty.GrantWriter l) ⊎ (d ≡ duty.GrantReaders l) → (is_mutex (kind_of w l) ≡ false) ⊎ ((n : ℕ) × (x ≡ ReadHeld n))
  pub one_of : (d ≡ duty.WakeMutex l) ⊎ ((d ≡ duty.GrantWriter l) ⊎ (d ≡ duty.GrantReaders l))

-- Processor c gives up a hold of lock l, which is in state x.
pub data Outcome (w : Work) (s r : State) (c : ℕ) (l : LockId) (x : LockState) : Type 0 where
  freed : r.locks ≡ set s.locks l.0 Free → C.Kept duty_part s r → has_waiters s l.0 ≡ false → ((o : ThreadId) × (x ≡ Owned o)) ⊎ ((n : ℕ) × (x ≡ ReadHeld n) × (n ≤ 1)) → Outcome w s r c l x
  passed_on : (d : Duty) → r.locks ≡ set s.locks l.0 (Passing (record { 0 = c }) 0) → T.DutyIs s r c d → Suits w s l x d → has_waiters s l.0 ≡ true
      → ((o : ThreadId) × (x ≡ Owned o)) ⊎ ((n : ℕ) × (x ≡ ReadHeld n) × (n ≤ 1)) → Outcome w s r c l x
  fewer : (n : ℕ) → x ≡ ReadHeld n → 2 ≤ n → r.locks ≡ set s.locks l.0 (ReadHeld (n - 1)) → C.Kept duty_part s r → Outcome w s r c l x
  left : (d : CpuId) (k : ℕ) → x ≡ Passing d k → r.locks ≡ set s.locks l.0 (Passing d (k - 1)) → C.Kept duty_part s r → Outcome w s r c l x
  nothing : x ≡ Free → Outcome w s r c l x

-- who waits at neither side does not wait
pub sides_wait : (l : ℕ) (p : Place) → is_waiting l p ≡ true → (is_waiting_at l Writer p ≡ true) ⊎ (is_waiting_at l Reader p ≡ true)
sides_wait l (Waiting m Writer k) e = inl (rw e refl)
sides_wait l (Waiting m Reader k) e = inr (rw e refl)
sides_wait l p e = cc

pub nobody_waits : (s : State) (l : ℕ) → best_waiter s l Writer ≡ None → best_waiter s l Reader ≡ None → has_waiters s l ≡ true → ⊥
nobody_waits s l no_writer no_reader some =
    let (t, inside, waits) = has_waiters_at s l some in
    elim (sides_wait l (thread_of s t).place waits) [
      | inl a ↦ false≢true (sym (waiter_none s l Writer no_writer t inside) ∙ a)
      | inr b ↦ false≢true (sym (waiter_none s l Reader no_reader t inside) ∙ b)
    ]

first_reader : (s : State) (l : ℕ) → writer_first None (priority_of s (best_waiter s l Reader)) ≡ true → best_waiter s l Reader ≡ None
first_reader s l e = by (best_waiter s l Reader) refl e
  where
    by : (o : Option ℕ) → best_waiter s l Reader ≡ o → writer_first None (priority_of s o) ≡ true → best_waiter s l Reader ≡ None
    by None is e = is
    by (Some t) is e = cc

no_writer : (s : State) (l : ℕ) → best_waiter s l Writer ≡ None → writer_first (priority_of s (best_waiter s l Writer)) (priority_of s (best_waiter s l Reader)) ≡ true → has_waiters s l ≡ true → ⊥
no_writer s l none first some = nobody_waits s l none (first_reader s l (subst (λ o. writer_first (priority_of s o) (priority_of s (best_waiter s l Reader)) ≡ true) none first)) some

suits_writer : (w : Work) (s : State) (l : LockId) (x : LockState) → is_mutex (kind_of w l) ≡ false → Suits w s l x (after_writer s l)
suits_writer w s l x kind = by (writer_first (priority_of s (best_waiter s l.0 Writer)) (priority_of s (best_waiter s l.0 Reader))) refl
  where
    by : (b : Bool) → writer_first (priority_of s (best_waiter s l.0 Writer)) (priority_of s (best_waiter s l.0 Reader)) ≡ b → Suits w s l x (if b then duty.GrantWriter l else duty.GrantReaders l)
    by true e = record { alone = true; passes = refl; mutex = λ is. cc; writer = λ some is none. no_writer s l.0 none e some; rwlock = λ is. inl kind; one_of = inr (inl refl) }
    by false e = record { alone = false; passes = refl; mutex = λ is. cc; writer = λ some is. cc; rwlock = λ is. inl kind; one_of = inr (inr refl) }

suits_owner : (w : Work) (s : State) (l : LockId) (x : LockState) → Suits w s l x (after_owner w s l)
suits_owner w s l x = by (is_mutex (kind_of w l)) refl
  where
    neither : (duty.WakeMutex l ≡ duty.GrantWriter l) ⊎ (duty.WakeMutex l ≡ duty.GrantReaders l) → (is_mutex (kind_of w l) ≡ false) ⊎ ((n : ℕ) × (x ≡ ReadHeld n))
    neither (inl a) = cc
    neither (inr a) = cc

    by : (b : Bool) → is_mutex (kind_of w l) ≡ b → Suits w s l x (if b then duty.WakeMutex l else after_writer s l)
    by true e = record { alone = true; passes = refl; mutex = λ is. e; writer = λ some is. cc; rwlock = neither; one_of = inl refl }
    by false e = suits_writer w s l x e

suits_reader : (w : Work) (s : State) (l : LockId) (n : ℕ) → Suits w s l (ReadHeld n) (after_reader s l)
suits_reader w s l n = by (best_waiter s l.0 Writer) refl
  where
    by : (o : Option ℕ) → best_waiter s l.0 Writer ≡ o → Suits w s l (ReadHeld n) (if is_some o then duty.GrantWriter l else duty.GrantReaders l)
    by (Some u) e = record { alone = true; passes = refl; mutex = λ is. cc; writer = λ some is none. some_none u (sym e ∙ none); rwlock = λ is. inr (n, refl); one_of = inr (inl refl) }
      where
        some_none : (v : ℕ) → Some v ≡ None → ⊥
        some_none v e = cc
    by None e = record { alone = false; passes = refl; mutex = λ is. cc; writer = λ some is. cc; rwlock = λ is. inr (n, refl); one_of = inr (inr refl) }

pub set_duty_locks : (s : State) (c : ℕ) (d : Duty) → (set_duty s c d).locks ≡ s.locks
unfolding set_duty
set_duty_locks s c d = refl

pub drop_shape : (s : State) (c : ℕ) (e : Event) → IsShaped s (drop_ageing s c e)
unfolding drop_ageing
drop_shape s c e = set_duty_shape s c _

free_or_passed_outcome : (w : Work) (s : State) (c : CpuId) (l : LockId) (x : LockState) (d : Duty) → c.0 < length s.cpus → Suits w s l x d → ((o : ThreadId) × (x ≡ Owned o)) ⊎ ((n : ℕ) × (x ≡ ReadHeld n) × (n ≤ 1))
    → Outcome w s (free_or_passed s c l d) c.0 l x
free_or_passed_outcome w s c l x d here suits kind = by (has_waiters s l.0) refl
  where
    by : (b : Bool) → has_waiters s l.0 ≡ b → Outcome w s (if b then set_duty (with_lock s l.0 (Passing c 0)) c.0 d else with_lock s l.0 Free) c.0 l x
    by true e = passed_on d (set_duty_locks (with_lock s l.0 (Passing c 0)) c.0 d) (T.duties_then s (with_lock s l.0 (Passing c 0)) _ c.0 d (C.lock_kept duty_part s l.0 _) (T.set_duty_is (with_lock s l.0 (Passing c 0)) c.0 d here)) suits e kind
    by false e = freed refl (C.lock_kept duty_part s l.0 Free) e kind

release_outcome : (w : Work) (s : State) (c : CpuId) (l : LockId) (x : LockState) → c.0 < length s.cpus → Outcome w s (release_from w s c l x) c.0 l x
release_outcome w s c l Free here = nothing refl
release_outcome w s c l (Owned o) here = free_or_passed_outcome w s c l (Owned o) (after_owner w s l) here (suits_owner w s l (Owned o)) (inl (o, refl))
release_outcome w s c l (Passing d k) here = left d k refl refl (C.lock_kept duty_part s l.0 _)
release_outcome w s c l (ReadHeld n) here = by (nat_le n 1) refl
  where
    by : (b : Bool) → nat_le n 1 ≡ b → Outcome w s (if b then free_or_passed s c l (after_reader s l) else with_lock s l.0 (ReadHeld (n - 1))) c.0 l (ReadHeld n)
    by true e = free_or_passed_outcome w s c l (ReadHeld n) (after_reader s l) here (suits_reader w s l n) (inr (n, refl, grind (arith, nat_tests)))
    by false e = fewer n refl (grind (arith, nat_tests)) refl (C.lock_kept duty_part s l.0 _)

-- what comes after leaves locks and duties
outcome_then : (w : Work) (s q r : State) (c : ℕ) (l : LockId) (x : LockState) → r.locks ≡ q.locks → C.Kept duty_part q r → Outcome w s q c l x → Outcome w s r c l x
outcome_then w s q r c l x locks duties (freed a b e kind) = freed (locks ∙ a) (C.then_kept duty_part s q r b duties) e kind
outcome_then w s q r c l x locks duties (passed_on d a b suits e kind) = passed_on d (locks ∙ a) (T.then_duties s q r c d b duties) suits e kind
outcome_then w s q r c l x locks duties (fewer n is two a b) = fewer n is two (locks ∙ a) (C.then_kept duty_part s q r b duties)
outcome_then w s q r c l x locks duties (left d k is a b) = left d k is (locks ∙ a) (C.then_kept duty_part s q r b duties)
outcome_then w s q r c l x locks duties (nothing is) = nothing is

pub exit_outcome : (w : Work) (s : State) (n : ℕ) (c : CpuId) (t : ThreadId) (l : LockId) → c.0 < length s.cpus
    → Outcome w (drop_ageing s c.0 (event.Exit t l)) (after w s n c (event.Exit t l)) c.0 l (lock_of (drop_ageing s c.0 (event.Exit t l)) l.0)
unfolding after effect
exit_outcome w s n c t l here =
    let s0 = drop_ageing s c.0 (event.Exit t l) in
    outcome_then w s0 (release_from w s0 c l (lock_of s0 l.0)) _ c.0 l (lock_of s0 l.0) (T.exited_locks w s0 c t.0 l).are (T.exited_duties w s0 c t.0 l)
    (release_outcome w s0 c l (lock_of s0 l.0) (T.cpu_there s s0 c.0 (drop_shape s c.0 (event.Exit t l)) here))

pub cv_wait_outcome : (w : Work) (s : State) (n : ℕ) (c : CpuId) (t : ThreadId) (k : ChanId) (l : LockId) → c.0 < length s.cpus
    → Outcome w (drop_ageing s c.0 (event.CvWait t k l)) (after w s n c (event.CvWait t k l)) c.0 l (lock_of (drop_ageing s c.0 (event.CvWait t k l)) l.0)
unfolding after effect
cv_wait_outcome w s n c t k l here =
    let s0 = drop_ageing s c.0 (event.CvWait t k l) in
    outcome_then w s0 (release_from w s0 c l (lock_of s0 l.0)) _ c.0 l (lock_of s0 l.0) (T.cv_waited_locks w s0 n c t.0 k l).are (T.cv_waited_duties w s0 n c t.0 k l)
    (release_outcome w s0 c l (lock_of s0 l.0) (T.cpu_there s s0 c.0 (drop_shape s c.0 (event.CvWait t k l)) here))
