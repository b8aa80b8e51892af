-- What becomes of a lock that a processor passes on: its waiters are woken, it is granted, or nobody is left.
use Rattle.std.proofs.Common.{◌≡◌, ◌≢◌, ℕ, ◌<◌, ◌≤◌, Bool, true, false, List, length, set, Option, Some, None, refl, sym, ap, ◌∙◌, inl, inr, ◌⊎◌, subst, arith}
use Rattle.std.specs.Prelude.{if◌then◌else◌, nat_lt, is_some}
use Rattle.std.proofs.lemmas.Bool.Decides.{nat_tests}
use Rattle.sd_types.specs.declared.numbers.CpuId.{CpuId}
use Rattle.sd_types.specs.declared.numbers.LockId.{LockId}
use Rattle.sd_types.specs.declared.numbers.Side.TheVariants.{Writer}
use Rattle.sd_types.specs.declared.numbers.ThreadId.{ThreadId}
use Rattle.sd_types.specs.declared.events.Duty.{Duty}
use Rattle.sd_types.specs.declared.events.Duty.TheVariants as duty
use Rattle.sd_types.specs.declared.events.Event.{Event}
use Rattle.sd_types.specs.declared.events.Event.TheVariants as event
use Rattle.sd_types.specs.declared.events.Put.{Put}
use Rattle.sd_types.specs.declared.works.Work.{Work}
use Rattle.sd_state.specs.declared.states.LockState.{LockState}
use Rattle.sd_state.specs.declared.states.LockState.TheVariants.{Free, Owned, ReadHeld, Passing}
use Rattle.sd_state.specs.declared.states.State.{State}
use Rattle.sd_state.specs.States.{cpu_of, no_cpu}
use Rattle.sd_machine.specs.Threads.{thread_id, lock_of, with_lock, best_waiter, has_waiters}
use Rattle.sd_machine.specs.Changes.{set_duty}
use Rattle.sd_machine.specs.Sleeping.{woken}
use Rattle.sd_machine.specs.Locking.{one_reader_more, unblocked, unblocked_on, granted, passed, passed_on}
use Rattle.sd_machine.specs.Events.{effect, after, drop_ageing, dropped_duty}
use Rattle.sd_machine.proofs.ShapeLemmas.{woken_shape, lock_shape, then_shape}
use Rattle.sd_frames.proofs.Parts.{same_item}
use Rattle.sd_frames.proofs.LockTable as T
use Rattle.sd_frames.proofs.LockTable.{duty_part}
use Rattle.sd_frames.proofs.ReleaseLemmas.{drop_shape, set_duty_locks}
use Rattle.sd_frames.proofs.CpuWords as C

-- a duty that is no ageing stays where an ageing would be dropped
pub drop_duties : (s : State) (c : ℕ) (e : Event) → dropped_duty e (cpu_of s c).duty ≡ (cpu_of s c).duty → C.Kept duty_part s (drop_ageing s c e)
unfolding drop_ageing set_duty
drop_duties s c e same = record { each = same_item duty_part s.cpus no_cpu c (record (cpu_of s c) { duty = dropped_duty e (cpu_of s c).duty }) same }

-- The best waiter of a mutex was woken.
pub data Woken (s r : State) (c : ℕ) (l : LockId) : Type 0 where
  more : r.locks ≡ s.locks → C.Kept duty_part s r → has_waiters r l.0 ≡ true → Woken s r c l
  last : r.locks ≡ set s.locks l.0 Free → T.DutyIs s r c duty.Nothing → has_waiters r l.0 ≡ false → Woken s r c l

has_waiters_kept : (s : State) (l c : ℕ) (x : LockState) (d : Duty) → has_waiters (set_duty (with_lock s l x) c d) l ≡ has_waiters s l
unfolding has_waiters set_duty
has_waiters_kept s l c x d = refl

unblocked_outcome : (w : Work) (s : State) (n : ℕ) (c : CpuId) (l : LockId) (u : ℕ) (at : Put) → c.0 < length s.cpus → Woken s (unblocked w s n c l u at) c.0 l
unfolding unblocked
unblocked_outcome w s n c l u at here = by (has_waiters (woken w s n u at) l.0) refl
  where
    by : (b : Bool) → has_waiters (woken w s n u at) l.0 ≡ b → Woken s (unblocked_on (woken w s n u at) c l b) c.0 l
    by true e = more (T.woken_locks w s n u at).same (T.woken_duties w s n u at) e
    by false e = last (set_duty_locks (with_lock (woken w s n u at) l.0 Free) c.0 duty.Nothing ∙ ap (λ (xs : List LockState). set xs l.0 Free) (T.woken_locks w s n u at).same)
        (T.duties_then s (with_lock (woken w s n u at) l.0 Free) _ c.0 duty.Nothing (C.then_kept duty_part s (woken w s n u at) _ (T.woken_duties w s n u at) (C.lock_kept duty_part _ l.0 Free))
        (T.set_duty_is (with_lock (woken w s n u at) l.0 Free) c.0 duty.Nothing (T.cpu_there s _ c.0 (then_shape s _ _ (woken_shape w s n u at) (lock_shape _ l.0 Free)) here)))
        (has_waiters_kept (woken w s n u at) l.0 c.0 Free duty.Nothing ∙ e)

pub unblock_outcome : (w : Work) (s : State) (n : ℕ) (c : CpuId) (l : LockId) (u : ThreadId) (at : Put) → c.0 < length s.cpus
    → Woken (drop_ageing s c.0 (event.Unblock l u at)) (after w s n c (event.Unblock l u at)) c.0 l
unfolding after effect
unblock_outcome w s n c l u at here = unblocked_outcome w (drop_ageing s c.0 (event.Unblock l u at)) n c l u.0 at (T.cpu_there s _ c.0 (drop_shape s c.0 (event.Unblock l u at)) here)

-- The lock was granted.
pub data Granted (s r : State) (c : ℕ) (l : LockId) (u : ℕ) (d : Duty) : Type 0 where
  to_writer : d ≡ duty.GrantWriter l → r.locks ≡ set s.locks l.0 (Owned (thread_id u)) → T.DutyIs s r c duty.Nothing → Granted s r c l u d
  to_reader : d ≡ duty.GrantReaders l → r.locks ≡ set s.locks l.0 (one_reader_more (lock_of s l.0)) → C.Kept duty_part s r → Granted s r c l u d

granted_outcome : (w : Work) (s : State) (n : ℕ) (c : CpuId) (l : LockId) (u : ℕ) (at : Put) (d : Duty) → c.0 < length s.cpus → (d ≡ duty.GrantWriter l) ⊎ (d ≡ duty.GrantReaders l) → Granted s (granted w s n c l u at d) c.0 l u d
granted_outcome w s n c l u at d here (inl e) =
    subst (λ x. Granted s (granted w s n c l u at x) c.0 l u x) (sym e) (to_writer refl (T.granted_to_writer_locks w s n c l u at).are (T.granted_to_writer_duty w s n c l u at here))
granted_outcome w s n c l u at d here (inr e) =
    subst (λ x. Granted s (granted w s n c l u at x) c.0 l u x) (sym e) (to_reader refl (T.granted_to_reader_locks w s n l u at).are (T.granted_to_reader_duties w s n l u at))

pub grant_outcome : (w : Work) (s : State) (n : ℕ) (c : CpuId) (l : LockId) (u : ThreadId) (at : Put) → c.0 < length s.cpus
    → ((cpu_of (drop_ageing s c.0 (event.Grant l u at)) c.0).duty ≡ duty.GrantWriter l) ⊎ ((cpu_of (drop_ageing s c.0 (event.Grant l u at)) c.0).duty ≡ duty.GrantReaders l)
    → Granted (drop_ageing s c.0 (event.Grant l u at)) (after w s n c (event.Grant l u at)) c.0 l u.0 (cpu_of (drop_ageing s c.0 (event.Grant l u at)) c.0).duty
unfolding after effect
grant_outcome w s n c l u at here kind = granted_outcome w (drop_ageing s c.0 (event.Grant l u at)) n c l u.0 at (cpu_of (drop_ageing s c.0 (event.Grant l u at)) c.0).duty (T.cpu_there s _ c.0 (drop_shape s c.0 (event.Grant l u at)) here) kind

-- No reader is left that may have the lock.
pub data Passed (s r : State) (c : ℕ) (l : LockId) (x : LockState) : Type 0 where
  to_readers : (d : CpuId) (k : ℕ) → x ≡ Passing d k → 1 ≤ k → r.locks ≡ set s.locks l.0 (ReadHeld k) → T.DutyIs s r c duty.Nothing → Passed s r c l x
  writer_next : (d : CpuId) → x ≡ Passing d 0 → r.locks ≡ s.locks → T.DutyIs s r c (duty.GrantWriter l) → best_waiter s l.0 Writer ≢ None → Passed s r c l x
  to_nobody : (d : CpuId) → x ≡ Passing d 0 → r.locks ≡ set s.locks l.0 Free → T.DutyIs s r c duty.Nothing → best_waiter s l.0 Writer ≡ None → Passed s r c l x
  otherwise : ((d : CpuId) (k : ℕ) → x ≢ Passing d k) → Passed s r c l x

set_lock_duty : (s : State) (c : CpuId) (l : LockId) (y : LockState) (d : Duty) → c.0 < length s.cpus → T.DutyIs s (set_duty (with_lock s l.0 y) c.0 d) c.0 d
set_lock_duty s c l y d here = T.duties_then s (with_lock s l.0 y) _ c.0 d (C.lock_kept duty_part s l.0 y) (T.set_duty_is (with_lock s l.0 y) c.0 d here)

passed_outcome : (s : State) (c : CpuId) (l : LockId) (x : LockState) → c.0 < length s.cpus → Passed s (passed_on s c l x) c.0 l x
passed_outcome s c l Free here = otherwise (λ d k e. cc)
passed_outcome s c l (Owned o) here = otherwise (λ d k e. cc)
passed_outcome s c l (ReadHeld m) here = otherwise (λ d k e. cc)
passed_outcome s c l (Passing d k) here = by (nat_lt 0 k) refl
  where
    waits : (o : Option ℕ) → best_waiter s l.0 Writer ≡ o → k ≡ 0 → Passed s (if is_some o then set_duty s c.0 (duty.GrantWriter l) else set_duty (with_lock s l.0 Free) c.0 duty.Nothing) c.0 l (Passing d k)
    waits (Some u) e none = writer_next d (ap (λ i. Passing d i) none) (set_duty_locks s c.0 (duty.GrantWriter l)) (T.set_duty_is s c.0 (duty.GrantWriter l) here) (λ is. some_none u (sym e ∙ is))
      where
        some_none : (v : ℕ) → Some v ≡ None → ⊥
        some_none v e = cc
    waits None e none = to_nobody d (ap (λ i. Passing d i) none) (set_duty_locks (with_lock s l.0 Free) c.0 duty.Nothing) (set_lock_duty s c l Free duty.Nothing here) e

    by : (b : Bool) → nat_lt 0 k ≡ b → Passed s (if b then set_duty (with_lock s l.0 (ReadHeld k)) c.0 duty.Nothing else if is_some (best_waiter s l.0 Writer) then set_duty s c.0 (duty.GrantWriter l) else set_duty (with_lock s l.0 Free) c.0 duty.Nothing) c.0 l (Passing d k)
    by true e = to_readers d k refl (grind (arith, nat_tests)) (set_duty_locks (with_lock s l.0 (ReadHeld k)) c.0 duty.Nothing) (set_lock_duty s c l (ReadHeld k) duty.Nothing here)
    by false e = waits (best_waiter s l.0 Writer) refl (grind (arith, nat_tests))

pub pass_outcome : (w : Work) (s : State) (n : ℕ) (c : CpuId) (l : LockId) → c.0 < length s.cpus
    → Passed (drop_ageing s c.0 (event.Passed l)) (after w s n c (event.Passed l)) c.0 l (lock_of (drop_ageing s c.0 (event.Passed l)) l.0)
unfolding after effect passed
pass_outcome w s n c l here = passed_outcome (drop_ageing s c.0 (event.Passed l)) c l (lock_of (drop_ageing s c.0 (event.Passed l)) l.0) (T.cpu_there s _ c.0 (drop_shape s c.0 (event.Passed l)) here)
