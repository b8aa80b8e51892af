-- In every state of every run a lock that readers hold has a reader.
use Rattle.std.proofs.Common.{◌≡◌, ℕ, zero, suc, ◌-◌, ◌≤◌, Bool, true, false, List, [], ◌∷◌, length, get_or, set, replicate, refl, sym, subst, arith}
use Rattle.std.specs.Prelude.{nat_le, nat_lt, is_some, if◌then◌else◌, ⊤}
use Rattle.std.proofs.lemmas.Bool.Decides.{nat_tests}
use Rattle.sd_types.specs.declared.numbers.CpuId.{CpuId}
use Rattle.sd_types.specs.declared.numbers.LockId.{LockId}
use Rattle.sd_types.specs.declared.numbers.Side.TheVariants.{Writer}
use Rattle.sd_types.specs.declared.events.Duty.{Duty}
use Rattle.sd_types.specs.declared.events.Duty.TheVariants as duty
use Rattle.sd_types.specs.declared.events.Event.{Event}
use Rattle.sd_types.specs.declared.events.Event.TheVariants.{Enter, Read, Write, Block, Exit, Unblock, Grant, Passed, CvWait}
use Rattle.sd_types.specs.declared.events.Put.{Put}
use Rattle.sd_types.specs.declared.works.Work.{Work}
use Rattle.sd_state.specs.declared.states.LockState.{LockState}
use Rattle.sd_state.specs.declared.states.LockState.TheVariants as lock
use Rattle.sd_state.specs.declared.states.State.{State}
use Rattle.sd_state.specs.States.{cpu_of}
use Rattle.sd_state.specs.Opening.{opening}
use Rattle.sd_machine.specs.Threads.{lock_of, with_lock, thread_id, has_waiters, best_waiter}
use Rattle.sd_machine.specs.Changes.{set_duty}
use Rattle.sd_machine.specs.Sleeping.{woken}
use Rattle.sd_machine.specs.Locking.{one_more, one_reader_more, free_or_passed, after_owner, after_reader, release_from, unblocked, unblocked_on, granted, passed, passed_on}
use Rattle.sd_machine.specs.Events.{drop_ageing, effect, after}
use Rattle.sd_invariants.specs.Laws.{HoldsWhenReached}
use Rattle.sd_frames.proofs.LockTable as T
use Rattle.sd_invariants.proofs.AgreedAfter.{enter_locks, write_locks, read_locks, block_locks}
use Rattle.sd_invariants.proofs.Ready.{IsKept, kept_reached}
use Rattle.sd_invariants.specs.Readers.{ReadersAreSome}

abbrev HasReaders : LockState → Type 0
HasReaders (lock.ReadHeld n) = 1 ≤ n
HasReaders _ = ⊤

abbrev AreRead : List LockState → Type 0
AreRead xs = (l : ℕ) → HasReaders (get_or xs l lock.Free)

-- one lock is another
put_read : (xs : List LockState) (l : ℕ) (x : LockState) → HasReaders x → AreRead xs → AreRead (set xs l x)
put_read [] l x ok all m = all m
put_read (y ∷ ys) zero x ok all zero = ok
put_read (y ∷ ys) zero x ok all (suc m) = all (suc m)
put_read (y ∷ ys) (suc l) x ok all zero = all zero
put_read (y ∷ ys) (suc l) x ok all (suc m) = put_read ys l x ok (λ i. all (suc i)) m

along : (xs ys : List LockState) → ys ≡ xs → AreRead xs → AreRead ys
along xs ys e all = subst (λ (zs : List LockState). AreRead zs) (sym e) all

one_more_read : (x : LockState) → HasReaders (one_more x)
one_more_read lock.Free = omega arith
one_more_read (lock.Owned o) = omega arith
one_more_read (lock.ReadHeld n) = omega arith
one_more_read (lock.Passing d r) = omega arith

one_reader_more_read : (x : LockState) → HasReaders x → HasReaders (one_reader_more x)
one_reader_more_read lock.Free ok = tt
one_reader_more_read (lock.Owned o) ok = tt
one_reader_more_read (lock.ReadHeld n) ok = ok
one_reader_more_read (lock.Passing d r) ok = tt

duty_read : (s : State) (c : ℕ) (d : Duty) → AreRead s.locks → AreRead (set_duty s c d).locks
unfolding set_duty
duty_read s c d all = all

freed_read : (s : State) (c : CpuId) (l : LockId) (d : Duty) → AreRead s.locks → AreRead (free_or_passed s c l d).locks
freed_read s c l d all = by (has_waiters s l.0)
  where
    by : (b : Bool) → AreRead (if b then set_duty (with_lock s l.0 (lock.Passing c 0)) c.0 d else with_lock s l.0 lock.Free).locks
    by true = duty_read (with_lock s l.0 (lock.Passing c 0)) c.0 d (put_read s.locks l.0 (lock.Passing c 0) tt all)
    by false = put_read s.locks l.0 lock.Free tt all

release_read : (w : Work) (s : State) (c : CpuId) (l : LockId) (x : LockState) → AreRead s.locks → AreRead (release_from w s c l x).locks
release_read w s c l lock.Free all = all
release_read w s c l (lock.Owned o) all = freed_read s c l (after_owner w s l) all
release_read w s c l (lock.Passing d r) all = put_read s.locks l.0 (lock.Passing d (r - 1)) tt all
release_read w s c l (lock.ReadHeld n) all = by (nat_le n 1) refl
  where
    by : (b : Bool) → nat_le n 1 ≡ b → AreRead (if b then free_or_passed s c l (after_reader s l) else with_lock s l.0 (lock.ReadHeld (n - 1))).locks
    by true e = freed_read s c l (after_reader s l) all
    by false e = put_read s.locks l.0 (lock.ReadHeld (n - 1)) (grind (arith, nat_tests)) all

unblocked_on_read : (s : State) (c : CpuId) (l : LockId) (b : Bool) → AreRead s.locks → AreRead (unblocked_on s c l b).locks
unblocked_on_read s c l true all = all
unblocked_on_read s c l false all = duty_read (with_lock s l.0 lock.Free) c.0 duty.Nothing (put_read s.locks l.0 lock.Free tt all)

unblocked_read : (w : Work) (s : State) (n : ℕ) (c : CpuId) (l : LockId) (u : ℕ) (at : Put) → AreRead s.locks → AreRead (unblocked w s n c l u at).locks
unfolding unblocked
unblocked_read w s n c l u at all =
    unblocked_on_read (woken w s n u at) c l (has_waiters (woken w s n u at) l.0) (along s.locks (woken w s n u at).locks (T.woken_locks w s n u at).same all)

granted_read : (w : Work) (s : State) (n : ℕ) (c : CpuId) (l : LockId) (u : ℕ) (at : Put) (d : Duty) → AreRead s.locks → AreRead (granted w s n c l u at d).locks
granted_read w s n c l u at d all = by d
  where
    writer : AreRead (granted w s n c l u at (duty.GrantWriter l)).locks
    writer = along _ _ (T.granted_to_writer_locks w s n c l u at).are (put_read s.locks l.0 (lock.Owned (thread_id u)) tt all)

    reader : AreRead (granted w s n c l u at duty.Nothing).locks
    reader = along _ _ (T.granted_to_reader_locks w s n l u at).are (put_read s.locks l.0 (one_reader_more (lock_of s l.0)) (one_reader_more_read (lock_of s l.0) (all l.0)) all)

    by : (x : Duty) → AreRead (granted w s n c l u at x).locks
    by (duty.GrantWriter m) = writer
    by x = reader

passed_on_read : (s : State) (c : CpuId) (l : LockId) (x : LockState) → AreRead s.locks → AreRead (passed_on s c l x).locks
passed_on_read s c l lock.Free all = duty_read s c.0 duty.Nothing all
passed_on_read s c l (lock.Owned o) all = duty_read s c.0 duty.Nothing all
passed_on_read s c l (lock.ReadHeld n) all = duty_read s c.0 duty.Nothing all
passed_on_read s c l (lock.Passing d r) all = by (nat_lt 0 r) refl
  where
    waits : (b : Bool) → AreRead (if b then set_duty s c.0 (duty.GrantWriter l) else set_duty (with_lock s l.0 lock.Free) c.0 duty.Nothing).locks
    waits true = duty_read s c.0 (duty.GrantWriter l) all
    waits false = duty_read (with_lock s l.0 lock.Free) c.0 duty.Nothing (put_read s.locks l.0 lock.Free tt all)

    by : (b : Bool) → nat_lt 0 r ≡ b
        → AreRead (if b then set_duty (with_lock s l.0 (lock.ReadHeld r)) c.0 duty.Nothing else if is_some (best_waiter s l.0 Writer) then set_duty s c.0 (duty.GrantWriter l) else set_duty (with_lock s l.0 lock.Free) c.0 duty.Nothing).locks
    by true e = duty_read (with_lock s l.0 (lock.ReadHeld r)) c.0 duty.Nothing (put_read s.locks l.0 (lock.ReadHeld r) (grind (arith, nat_tests)) all)
    by false e = waits (is_some (best_waiter s l.0 Writer))

dropped : (s : State) (c : ℕ) (e : Event) → AreRead s.locks → AreRead (drop_ageing s c e).locks
unfolding drop_ageing
dropped s c e all = duty_read s c _ all

exit_read : (w : Work) (s : State) (n : ℕ) (c : CpuId) (e : Event) → AreRead s.locks → AreRead (after w s n c e).locks
unfolding after effect passed
exit_read w s n c (Exit t l) all =
    let s0 = drop_ageing s c.0 (Exit t l) in
    along _ _ (T.exited_locks w s0 c t.0 l).are (release_read w s0 c l (lock_of s0 l.0) (dropped s c.0 (Exit t l) all))
exit_read w s n c (CvWait t k l) all =
    let s0 = drop_ageing s c.0 (CvWait t k l) in
    along _ _ (T.cv_waited_locks w s0 n c t.0 k l).are (release_read w s0 c l (lock_of s0 l.0) (dropped s c.0 (CvWait t k l) all))
exit_read w s n c (Unblock l u at) all = unblocked_read w (drop_ageing s c.0 (Unblock l u at)) n c l u.0 at (dropped s c.0 (Unblock l u at) all)
exit_read w s n c (Grant l u at) all =
    let s0 = drop_ageing s c.0 (Grant l u at) in
    granted_read w s0 n c l u.0 at (cpu_of s0 c.0).duty (dropped s c.0 (Grant l u at) all)
exit_read w s n c (Passed l) all =
    let s0 = drop_ageing s c.0 (Passed l) in
    passed_on_read s0 c l (lock_of s0 l.0) (dropped s c.0 (Passed l) all)
exit_read w s n c (Enter t l) all = along _ _ (enter_locks w s n c t l).are (put_read s.locks l.0 (lock.Owned (thread_id t.0)) tt all)
exit_read w s n c (Write t l) all = along _ _ (write_locks w s n c t l).are (put_read s.locks l.0 (lock.Owned (thread_id t.0)) tt all)
exit_read w s n c (Read t l) all = along _ _ (read_locks w s n c t l).are (put_read s.locks l.0 (one_more (lock_of s l.0)) (one_more_read (lock_of s l.0)) all)
exit_read w s n c (Block t l) all = along _ _ (block_locks w s n c t l) all
exit_read w s n c e all = along _ _ (T.quiet_locks w s n c e refl) all

all_free : (n : ℕ) → AreRead (replicate n lock.Free)
all_free zero l = tt
all_free (suc n) zero = tt
all_free (suc n) (suc l) = all_free n l

opening_read : (w : Work) → AreRead (opening w).locks
unfolding opening
opening_read w = all_free (length w.locks)

kept : IsKept (λ w n s. AreRead s.locks)
kept = record {
  start = opening_read;
  step = λ w s n c e ready cause all. exit_read w s n c e all;
}

pub readers_law : HoldsWhenReached (λ w s. ReadersAreSome s)
readers_law w n s reached l m is = subst (λ x. HasReaders x) is (kept_reached (λ w s. AreRead s.locks) kept w n s reached l)
