-- A lock that readers hold has a writer among its waiters, if it has any, through each event.
use Rattle.std.proofs.Common.{◌≡◌, ◌≢◌, ℕ, ◌-◌, ◌<◌, Bool, true, false, List, length, set, get_or, Option, Some, None, refl, sym, ap, ◌∙◌, subst, arith, ◌⊎◌, inl, inr}
use Rattle.std.specs.Prelude.{option_map, ℤ}
use Rattle.std.proofs.lemmas.Bool.{cases_eq, eqb-true}
use Rattle.sd_basics.proofs.Numbers.{same_itself}
use Rattle.sd_types.specs.declared.numbers.ChanId.{ChanId}
use Rattle.sd_types.specs.declared.numbers.CpuId.{CpuId}
use Rattle.sd_types.specs.declared.numbers.LockId.{LockId}
use Rattle.sd_types.specs.declared.numbers.ThreadId.{ThreadId}
use Rattle.sd_types.specs.declared.numbers.Side.{Side}
use Rattle.sd_types.specs.declared.numbers.Side.TheVariants.{Writer, Reader}
use Rattle.sd_types.specs.declared.events.Duty.{Duty}
use Rattle.sd_types.specs.declared.events.Duty.TheVariants as duty
use Rattle.sd_types.specs.declared.events.Event.{Event}
use Rattle.sd_types.specs.declared.events.Event.TheVariants.{Enter, Read, Write, Block, Exit, Unblock, Grant, Passed, CvWait}
use Rattle.sd_types.specs.declared.events.Put.{Put}
use Rattle.sd_types.specs.declared.scripts.Op.TheVariants as op
use Rattle.sd_types.specs.declared.works.Work.{Work}
use Rattle.sd_types.specs.Works.{is_rwlock}
use Rattle.sd_state.specs.declared.states.LockState.{LockState}
use Rattle.sd_state.specs.declared.states.LockState.TheVariants.{Free, Owned, ReadHeld, Passing}
use Rattle.sd_state.specs.declared.states.Place.{Place}
use Rattle.sd_state.specs.declared.states.Place.TheVariants.{Waiting}
use Rattle.sd_state.specs.declared.states.State.{State}
use Rattle.sd_state.specs.States.{thread_of, cpu_of, eff_of}
use Rattle.sd_state.specs.Operations.{op_of}
use Rattle.sd_machine.specs.Threads.{thread_id, lock_of, is_waiting, is_waiting_at, best_waiter, has_waiters}
use Rattle.sd_machine.specs.Changes.{back_key, set_duty}
use Rattle.sd_machine.specs.Locking.{kind_of, side_of, one_more, one_reader_more}
use Rattle.sd_machine.specs.LockGraph.{wait_of}
use Rattle.sd_machine.specs.Events.{after, drop_ageing, dropped_duty}
use Rattle.sd_machine.specs.Graphs as G
use Rattle.sd_machine.specs.Holders as H
use Rattle.sd_machine.proofs.Moves.{put_cases}
use Rattle.sd_frames.specs.Causes.{IsCause}
use Rattle.sd_frames.specs.Passing.{pass_of}
use Rattle.sd_invariants.specs.Holding.{lock_state, DutyServes, IsReadWell, ReadsWell}
use Rattle.sd_frames.specs.Moves.{put_step, step_of}
use Rattle.sd_frames.proofs.LockTable as T
use Rattle.sd_frames.proofs.LockTable.{is_lockless}
use Rattle.sd_frames.proofs.Found.{runner_found}
use Rattle.sd_frames.proofs.Searches.{has_waiters_at, waiter_some}
use Rattle.sd_machine.specs.Accounts.{is_block}
use Rattle.sd_invariants.proofs.ScriptLemmas.{step_away, side_is}
use Rattle.sd_invariants.proofs.Movers.{ends_wait}
use Rattle.sd_invariants.proofs.Waiters.{Stays, Waited, away_waited, others_waited, stays_best, waited_has}
use Rattle.sd_invariants.proofs.Works.{op_named}
use Rattle.sd_invariants.proofs.AgreedLemmas as A
use Rattle.sd_invariants.proofs.AgreedAfter.{IsReady, IsNext, lock_inside, not_free_passing, enter_locks, write_locks, read_locks, block_locks}
use Rattle.sd_invariants.proofs.AgreedEvents.{lock_named, lockless}
use Rattle.sd_invariants.proofs.ServeLemmas.{kind_is, stays_all, wait_ends, exit_busy, cv_wait_busy}
use Rattle.sd_frames.proofs.ReleaseLemmas.{Outcome, exit_outcome, cv_wait_outcome, nobody_waits}
use Rattle.sd_frames.proofs.ReleaseLemmas.Outcome.{freed, passed_on, fewer, left, nothing}
use Rattle.sd_frames.proofs.PassLemmas.{Woken, Granted, Passed as Handed, unblock_outcome, grant_outcome, pass_outcome, drop_duties}
use Rattle.sd_frames.proofs.PassLemmas.Woken.{more, last}
use Rattle.sd_frames.proofs.PassLemmas.Granted.{to_writer, to_reader}
use Rattle.sd_frames.proofs.PassLemmas.Passed.{to_readers, writer_next, to_nobody, otherwise}

lock_is : (m l : LockId) → m.0 ≡ l.0 → m ≡ l
lock_is m l same = let lock : ℕ → LockId = λ i. record { 0 = i } in ap lock same

-- the waiters of a lock are the same
record Same (s r : State) (l : ℕ) : Type 0 where
  stays : Stays s r l
  waited : Waited s r l

on_reads : (w : Work) (s r : State) (l : LockId) → length r.threads ≡ length s.threads → Same s r l.0 → IsReadWell w s l → IsReadWell w r l
on_reads w s r l many same before = record {
  kind = before.kind;
  writer = λ some. stays_best s r many l.0 same.stays Writer (before.writer (waited_has s r many l.0 same.waited some));
}

-- Where the locks are as they were, and where one is another.

reads_kept : (w : Work) (s r : State) → length r.threads ≡ length s.threads → r.locks ≡ s.locks → ((l : LockId) (n : ℕ) → lock_of s l.0 ≡ ReadHeld n → Same s r l.0) → ReadsWell w s → ReadsWell w r
reads_kept w s r many locks same reads = λ l n is.
    let held : lock_of s l.0 ≡ ReadHeld n = sym (ap (λ (xs : List LockState). get_or xs l.0 Free) locks) ∙ is in
    on_reads w s r l many (same l n held) (reads l n held)

reads_put : (w : Work) (s r : State) (l : LockId) (x : LockState) → length r.threads ≡ length s.threads → l.0 < length s.locks → r.locks ≡ set s.locks l.0 x
    → ((m : ℕ) → m ≢ l.0 → Same s r m) → ((n : ℕ) → x ≡ ReadHeld n → IsReadWell w r l) → ReadsWell w s → ReadsWell w r
reads_put w s r l x many inside locks same here reads = λ m n is. elim (put_cases l.0 x (λ i. lock_of s i) (λ i. lock_of r i) (A.locks_put s r l.0 x inside (record { are = locks })) m.0) [
  | inl me ↦ subst (λ k. IsReadWell w r k) (sym (lock_is m l me.0)) (here n (sym me.1 ∙ is))
  | inr other ↦ on_reads w s r m many (same m.0 other.0) (reads m n (sym other.1 ∙ is))
]

-- who waits for a lock in the list waits for it in the table
waits_in : (l : ℕ) (p : Place) → is_waiting l p ≡ true → option_map (λ (x : G.Wait). x.lock) (wait_of p) ≡ Some l
waits_in l (Waiting m side k) on = ap Some (eqb-true m.0 l on)
waits_in l p on = cc

owned_unread : (o : ThreadId) (n : ℕ) → Owned o ≢ ReadHeld n
owned_unread o n e = cc

passing_unread : (x : LockState) (c k n : ℕ) → lock_state x ≡ H.Lock.Passing c k → x ≢ ReadHeld n
passing_unread x c k n was is = let bad : H.Lock.Held n ≡ H.Lock.Passing c k = sym (ap lock_state is) ∙ was in cc

more_unread : (x : LockState) (c k n : ℕ) → lock_state x ≡ H.Lock.Passing c k → one_reader_more x ≢ ReadHeld n
more_unread Free c k n was is = cc
more_unread (Owned o) c k n was is = cc
more_unread (ReadHeld m) c k n was is = cc
more_unread (Passing d j) c k n was is = cc

some_is_some : (v : ℕ) (o : Option ℕ) → o ≡ Some v → o ≢ None
some_is_some v o is none = let bad : Some v ≡ None = sym is ∙ none in cc

waiting_writer : (l : LockId) (side : Side) (k : ℤ) → side ≡ Writer → is_waiting_at l.0 Writer (Waiting l side k) ≡ true
waiting_writer l Writer k is = rw (same_itself l.0) refl
waiting_writer l Reader k is = cc

module _ (w : Work) (s : State) (n : ℕ) (c : CpuId) (ready : IsReady w s) (c_in : c.0 < length s.cpus) where
  same_all : (e : Event) → ends_wait e ≡ false → is_block e ≡ false → IsCause w s c.0 e → IsNext w s (after w s n c e) n c e → (l : ℕ) → Same s (after w s n c e) l
  same_all e quiet away cause next l = record {
    stays = stays_all w s n c ready c_in e quiet cause next l;
    waited = away_waited (step_of w s n c e) s (after w s n c e) next.steps (step_away w s n c e away) l;
  }

  lockless_reads : (e : Event) → is_lockless e ≡ true → IsCause w s c.0 e → IsNext w s (after w s n c e) n c e → ReadsWell w (after w s n c e)
  lockless_reads e quiet cause next =
      reads_kept w s (after w s n c e) next.shape.threads (T.quiet_locks w s n c e quiet) (λ l m held. same_all e (lockless e quiet).ends (lockless e quiet).away cause next l.0) ready.reads

  -- a lock is taken
  nobody_yet : (l : LockId) → (lock_of s l.0 ≡ Free) ⊎ ((m : ℕ) × (lock_of s l.0 ≡ ReadHeld m) × (best_waiter s l.0 Writer ≡ None)) → has_waiters s l.0 ≡ true → ⊥
  nobody_yet l (inl free) some = let (t, inside, on) = has_waiters_at s l.0 some in ready.agreed.free l.0 t (ap lock_state free) (waits_in l.0 (thread_of s t).place on)
  nobody_yet l (inr (m, held, none)) some = (ready.reads l m held).writer some none

  read_reads : (t : ThreadId) (l : LockId) → IsCause w s c.0 (Read t l) → IsNext w s (after w s n c (Read t l)) n c (Read t l) → ReadsWell w (after w s n c (Read t l))
  read_reads t l cause next =
      reads_put w s (after w s n c (Read t l)) l (one_more (lock_of s l.0)) next.shape.threads (lock_named w s c.0 t.0 (op.Read l) ready.fits cause.0 l (λ d e. inr e)) (read_locks w s n c t l).are
      (λ m other. same_all (Read t l) refl refl cause next m)
      (λ m is. record {
        kind = subst (λ k. is_rwlock k ≡ true) (kind_is w l) (op_named w t.0 (thread_of s t.0).body.op (op.Read l) cause.0.stands);
        writer = λ some. absurd (nobody_yet l cause.1 (waited_has s (after w s n c (Read t l)) next.shape.threads l.0 (same_all (Read t l) refl refl cause next l.0).waited some));
      })
      ready.reads

  -- a thread comes to wait
  block_reads : (t : ThreadId) (l : LockId) → IsCause w s c.0 (Block t l) → IsNext w s (after w s n c (Block t l)) n c (Block t l) → ReadsWell w (after w s n c (Block t l))
  block_reads t l (side, wanted, busy) next = λ m k is.
      let held : lock_of s m.0 ≡ ReadHeld k = sym (ap (λ (xs : List LockState). get_or xs m.0 Free) (block_locks w s n c t l)) ∙ is in
      elim (cases_eq m.0 l.0) [
        | inl same ↦ here m k held same
        | inr other ↦ on_reads w s (after w s n c (Block t l)) m next.shape.threads (record {
          stays = stays m.0;
          waited = others_waited t.0 l (side_of (op_of w t.0 (thread_of s t.0).body)) (back_key n) s (after w s n c (Block t l)) next.steps m.0 other;
        }) (ready.reads m k held)
      ]
    where
      stays : (m : ℕ) → Stays s (after w s n c (Block t l)) m
      stays = stays_all w s n c ready c_in (Block t l) refl (side, wanted, busy) next

      at_side : side_of (op_of w t.0 (thread_of s t.0).body) ≡ side
      at_side = ap side_of wanted.acts.stands ∙ side_is wanted.by l side wanted.wanted

      writer_there : (x : Side) → side ≡ x → lock_of s l.0 ≡ lock_of s l.0 → ((x ≡ Reader → best_waiter s l.0 Writer ≢ None)) → best_waiter (after w s n c (Block t l)) l.0 Writer ≢ None
      writer_there Reader is held rule = stays_best s (after w s n c (Block t l)) next.shape.threads l.0 (stays l.0) Writer (rule refl)
      writer_there Writer is held rule =
          let inside : t.0 < length s.threads = (runner_found s c.0 t.0 wanted.acts.runs).inside in
          let many = next.shape.threads in
          waiter_some (after w s n c (Block t l)) l.0 Writer t.0 (omega (arith, inside, many))
          (ap (λ p. is_waiting_at l.0 Writer p) next.steps.at ∙ waiting_writer l (side_of (op_of w t.0 (thread_of s t.0).body)) (back_key n) (at_side ∙ is))

      by_lock : (k : ℕ) → lock_of s l.0 ≡ ReadHeld k → ((o : ThreadId) × (lock_of s l.0 ≡ Owned o)) ⊎ ((m : ℕ) × (lock_of s l.0 ≡ ReadHeld m) × (side ≡ Reader → best_waiter s l.0 Writer ≢ None))
          → best_waiter (after w s n c (Block t l)) l.0 Writer ≢ None
      by_lock k held (inl (o, owned)) = absurd (owned_unread o k (sym owned ∙ held))
      by_lock k held (inr (m, also, rule)) = writer_there side refl refl rule

      here : (m : LockId) (k : ℕ) → lock_of s m.0 ≡ ReadHeld k → m.0 ≡ l.0 → IsReadWell w (after w s n c (Block t l)) m
      here m k held same =
          let at : lock_of s l.0 ≡ ReadHeld k = sym (ap (λ i. lock_of s i) same) ∙ held in
          subst (λ x. IsReadWell w (after w s n c (Block t l)) x) (sym (lock_is m l same)) (record { kind = (ready.reads l k at).kind; writer = λ some. by_lock k at busy })

  -- a hold is given up
  gives_reads : (s0 r : State) (l : LockId) (x : LockState) → length r.threads ≡ length s.threads → s0.locks ≡ s.locks → ((m : ℕ) → Same s r m) → lock_of s l.0 ≡ x → lock_of s l.0 ≢ Free → Outcome w s0 r c.0 l x → ReadsWell w r
  gives_reads s0 r l x many locks0 same at busy (freed locks duties none kind) = reads_put w s r l Free many (lock_inside s l.0 busy) (locks ∙ ap (λ (xs : List LockState). set xs l.0 Free) locks0) (λ m other. same m) (λ m is. absurd (free_unread m is)) ready.reads
    where
      free_unread : (m : ℕ) → Free ≡ ReadHeld m → ⊥
      free_unread m is = cc
  gives_reads s0 r l x many locks0 same at busy (passed_on d locks duties suits some kind) =
      reads_put w s r l (Passing (record { 0 = c.0 }) 0) many (lock_inside s l.0 busy) (locks ∙ ap (λ (xs : List LockState). set xs l.0 (Passing (record { 0 = c.0 }) 0)) locks0) (λ m other. same m) (λ m is. absurd (passing_not m is)) ready.reads
    where
      passing_not : (m : ℕ) → Passing (record { 0 = c.0 }) 0 ≡ ReadHeld m → ⊥
      passing_not m is = cc
  gives_reads s0 r l x many locks0 same at busy (fewer k is two locks duties) =
      reads_put w s r l (ReadHeld (k - 1)) many (lock_inside s l.0 busy) (locks ∙ ap (λ (xs : List LockState). set xs l.0 (ReadHeld (k - 1))) locks0) (λ m other. same m)
      (λ m here. on_reads w s r l many (same l.0) (ready.reads l k (at ∙ is))) ready.reads
  gives_reads s0 r l x many locks0 same at busy (left d k is locks duties) =
      reads_put w s r l (Passing d (k - 1)) many (lock_inside s l.0 busy) (locks ∙ ap (λ (xs : List LockState). set xs l.0 (Passing d (k - 1))) locks0) (λ m other. same m) (λ m is. absurd (passing_not m is)) ready.reads
    where
      passing_not : (m : ℕ) → Passing d (k - 1) ≡ ReadHeld m → ⊥
      passing_not m is = cc
  gives_reads s0 r l x many locks0 same at busy (nothing is) = absurd (busy (at ∙ is))

  exit_reads : (t : ThreadId) (l : LockId) → IsCause w s c.0 (Exit t l) → IsNext w s (after w s n c (Exit t l)) n c (Exit t l) → ReadsWell w (after w s n c (Exit t l))
  unfolding drop_ageing set_duty
  exit_reads t l cause next =
      gives_reads (drop_ageing s c.0 (Exit t l)) (after w s n c (Exit t l)) l (lock_of s l.0) next.shape.threads refl (same_all (Exit t l) refl refl cause next) refl (exit_busy w s n c ready c_in t l cause) (exit_outcome w s n c t l c_in)

  cv_wait_reads : (t : ThreadId) (k : ChanId) (l : LockId) → IsCause w s c.0 (CvWait t k l) → IsNext w s (after w s n c (CvWait t k l)) n c (CvWait t k l) → ReadsWell w (after w s n c (CvWait t k l))
  unfolding drop_ageing set_duty
  cv_wait_reads t k l cause next =
      gives_reads (drop_ageing s c.0 (CvWait t k l)) (after w s n c (CvWait t k l)) l (lock_of s l.0) next.shape.threads refl (same_all (CvWait t k l) refl refl cause next) refl (cv_wait_busy w s n c ready c_in t k l cause) (cv_wait_outcome w s n c t k l c_in)

  -- a wait ends
  same_others : (e : Event) (u : ThreadId) (at : Put) (l : LockId) (side : Side) → step_of w s n c e ≡ put_step w n u.0 at → is_block e ≡ false → best_waiter s l.0 side ≡ Some u.0 → IsNext w s (after w s n c e) n c e → (m : ℕ) → m ≢ l.0 → Same s (after w s n c e) m
  same_others e u at l side is away best next m other = record {
    stays = wait_ends w s n c ready c_in e u at l side is best next m other;
    waited = away_waited (step_of w s n c e) s (after w s n c e) next.steps (step_away w s n c e away) m;
  }

  -- the lock that a processor passes on
  passing_at : (l : LockId) (alone : Bool) → pass_of (cpu_of s c.0).duty ≡ Some (record { lock = l.0; alone = alone }) → (k : ℕ) × (lock_state (lock_of s l.0) ≡ H.Lock.Passing c.0 k)
  passing_at l alone is = let (k, at, rest) = ready.agreed.passed c.0 (record { lock = l.0; alone = alone }) is in (k, at)

  other_lock : (l m : LockId) (k j : ℕ) → lock_state (lock_of s l.0) ≡ H.Lock.Passing c.0 k → lock_of s m.0 ≡ ReadHeld j → m.0 ≢ l.0
  other_lock l m k j at held same = passing_unread (lock_of s m.0) c.0 k j (ap (λ i. lock_state (lock_of s i)) same ∙ at) held

  unblock_reads : (l : LockId) (u : ThreadId) (at : Put) → IsCause w s c.0 (Unblock l u at) → IsNext w s (after w s n c (Unblock l u at)) n c (Unblock l u at) → ReadsWell w (after w s n c (Unblock l u at))
  unfolding drop_ageing set_duty
  unblock_reads l u at cause next = by (unblock_outcome w s n c l u at c_in)
    where
      was : (k : ℕ) × (lock_state (lock_of s l.0) ≡ H.Lock.Passing c.0 k)
      was = passing_at l true (ap pass_of cause.0)

      others : (m : ℕ) → m ≢ l.0 → Same s (after w s n c (Unblock l u at)) m
      others = same_others (Unblock l u at) u at l Writer refl refl cause.1 next

      free_unread : (m : ℕ) → Free ≡ ReadHeld m → ⊥
      free_unread m is = cc

      by : Woken (drop_ageing s c.0 (Unblock l u at)) (after w s n c (Unblock l u at)) c.0 l → ReadsWell w (after w s n c (Unblock l u at))
      by (more locks duties some) = reads_kept w s (after w s n c (Unblock l u at)) next.shape.threads locks (λ m j held. others m.0 (other_lock l m was.0 j was.1 held)) ready.reads
      by (last locks duties none) = reads_put w s (after w s n c (Unblock l u at)) l Free next.shape.threads (lock_inside s l.0 (not_free_passing (lock_of s l.0) c.0 was.0 was.1)) locks others (λ m is. absurd (free_unread m is)) ready.reads

  grant_reads : (l : LockId) (u : ThreadId) (at : Put) (side : Side) (alone : Bool) → ((cpu_of s c.0).duty ≡ duty.GrantWriter l) ⊎ ((cpu_of s c.0).duty ≡ duty.GrantReaders l) → pass_of (cpu_of s c.0).duty ≡ Some (record { lock = l.0; alone = alone })
      → best_waiter s l.0 side ≡ Some u.0 → IsNext w s (after w s n c (Grant l u at)) n c (Grant l u at) → ReadsWell w (after w s n c (Grant l u at))
  unfolding drop_ageing set_duty
  grant_reads l u at side alone grants passes best next = by (grant_outcome w s n c l u at c_in (kind grants))
    where
      was : (k : ℕ) × (lock_state (lock_of s l.0) ≡ H.Lock.Passing c.0 k)
      was = passing_at l alone passes

      inside : l.0 < length s.locks
      inside = lock_inside s l.0 (not_free_passing (lock_of s l.0) c.0 was.0 was.1)

      others : (m : ℕ) → m ≢ l.0 → Same s (after w s n c (Grant l u at)) m
      others = same_others (Grant l u at) u at l side refl refl best next

      now : (d : Duty) → (cpu_of s c.0).duty ≡ d → dropped_duty (Grant l u at) d ≡ d → (cpu_of (drop_ageing s c.0 (Grant l u at)) c.0).duty ≡ d
      now d is same = (drop_duties s c.0 (Grant l u at) (ap (λ x. dropped_duty (Grant l u at) x) is ∙ same ∙ sym is)).each c.0 ∙ is

      kind : ((cpu_of s c.0).duty ≡ duty.GrantWriter l) ⊎ ((cpu_of s c.0).duty ≡ duty.GrantReaders l)
          → ((cpu_of (drop_ageing s c.0 (Grant l u at)) c.0).duty ≡ duty.GrantWriter l) ⊎ ((cpu_of (drop_ageing s c.0 (Grant l u at)) c.0).duty ≡ duty.GrantReaders l)
      kind (inl is) = inl (now (duty.GrantWriter l) is refl)
      kind (inr is) = inr (now (duty.GrantReaders l) is refl)

      by : Granted (drop_ageing s c.0 (Grant l u at)) (after w s n c (Grant l u at)) c.0 l u.0 (cpu_of (drop_ageing s c.0 (Grant l u at)) c.0).duty → ReadsWell w (after w s n c (Grant l u at))
      by (to_writer e locks duties) = reads_put w s (after w s n c (Grant l u at)) l (Owned (thread_id u.0)) next.shape.threads inside locks others (λ m is. absurd (owned_unread (thread_id u.0) m is)) ready.reads
      by (to_reader e locks duties) = reads_put w s (after w s n c (Grant l u at)) l (one_reader_more (lock_of s l.0)) next.shape.threads inside locks others (λ m is. absurd (more_unread (lock_of s l.0) c.0 was.0 m was.1 is)) ready.reads

  -- no reader is left
  pass_reads : (l : LockId) → IsCause w s c.0 (Passed l) → IsNext w s (after w s n c (Passed l)) n c (Passed l) → ReadsWell w (after w s n c (Passed l))
  unfolding drop_ageing set_duty best_waiter
  pass_reads l cause next = by (pass_outcome w s n c l c_in)
    where
      was : (k : ℕ) × (lock_state (lock_of s l.0) ≡ H.Lock.Passing c.0 k)
      was = passing_at l false (ap pass_of cause.0)

      inside : l.0 < length s.locks
      inside = lock_inside s l.0 (not_free_passing (lock_of s l.0) c.0 was.0 was.1)

      same : (m : ℕ) → Same s (after w s n c (Passed l)) m
      same = same_all (Passed l) refl refl cause next

      kind : is_rwlock (kind_of w l) ≡ true
      kind = subst (λ d. DutyServes w s d) cause.0 (ready.serves c.0)

      a_writer : ((best_waiter s l.0 Reader ≡ None) ⊎ ((u v : ℕ) × (best_waiter s l.0 Reader ≡ Some u) × (best_waiter s l.0 Writer ≡ Some v) × (eff_of s u < eff_of s v))) → has_waiters s l.0 ≡ true → best_waiter s l.0 Writer ≢ None
      a_writer (inl none) some = λ no_writer. nobody_waits s l.0 no_writer none some
      a_writer (inr (u, v, reader, writer, less)) some = some_is_some v (best_waiter s l.0 Writer) writer

      free_unread : (m : ℕ) → Free ≡ ReadHeld m → ⊥
      free_unread m is = cc

      by : Handed (drop_ageing s c.0 (Passed l)) (after w s n c (Passed l)) c.0 l (lock_of s l.0) → ReadsWell w (after w s n c (Passed l))
      by (to_readers d k is one locks duties) =
          reads_put w s (after w s n c (Passed l)) l (ReadHeld k) next.shape.threads inside locks (λ m other. same m)
          (λ m here. on_reads w s (after w s n c (Passed l)) l next.shape.threads (same l.0) (record { kind = kind; writer = a_writer cause.1 })) ready.reads
      by (writer_next d is locks duties some) = reads_kept w s (after w s n c (Passed l)) next.shape.threads locks (λ m j held. same m.0) ready.reads
      by (to_nobody d is locks duties none) = reads_put w s (after w s n c (Passed l)) l Free next.shape.threads inside locks (λ m other. same m) (λ m is. absurd (free_unread m is)) ready.reads
      by (otherwise unlike) = absurd (no_such (lock_of s l.0) was.1 unlike)
        where
          no_such : (x : LockState) → lock_state x ≡ H.Lock.Passing c.0 was.0 → ((d : CpuId) (k : ℕ) → x ≢ Passing d k) → ⊥
          no_such Free is unlike = cc
          no_such (Owned o) is unlike = cc
          no_such (ReadHeld m) is unlike = cc
          no_such (Passing d k) is unlike = unlike d k refl

  owned_reads : (e : Event) (t : ThreadId) (l : LockId) → ends_wait e ≡ false → is_block e ≡ false → IsCause w s c.0 e → IsNext w s (after w s n c e) n c e → l.0 < length s.locks → (after w s n c e).locks ≡ set s.locks l.0 (Owned (thread_id t.0)) → ReadsWell w (after w s n c e)
  owned_reads e t l quiet away cause next inside locks =
      reads_put w s (after w s n c e) l (Owned (thread_id t.0)) next.shape.threads inside locks (λ m other. same_all e quiet away cause next m) (λ m is. absurd (owned_unread (thread_id t.0) m is)) ready.reads

  -- Reads are well after each event.
  pub after_reads : (e : Event) → IsCause w s c.0 e → IsNext w s (after w s n c e) n c e → ReadsWell w (after w s n c e)
  after_reads (Enter t l) cause next = owned_reads (Enter t l) t l refl refl cause next (lock_named w s c.0 t.0 (op.Enter l) ready.fits cause.0 l (λ d e. inl e)) (enter_locks w s n c t l).are
  after_reads (Write t l) cause next = owned_reads (Write t l) t l refl refl cause next (lock_named w s c.0 t.0 (op.Write l) ready.fits cause.0 l (λ d e. inr e)) (write_locks w s n c t l).are
  after_reads (Read t l) cause next = read_reads t l cause next
  after_reads (Block t l) cause next = block_reads t l cause next
  after_reads (Exit t l) cause next = exit_reads t l cause next
  after_reads (CvWait t k l) cause next = cv_wait_reads t k l cause next
  after_reads (Unblock l u at) cause next = unblock_reads l u at cause next
  after_reads (Grant l u at) (inl cause) next = grant_reads l u at Writer true (inl cause.0) (ap pass_of cause.0) cause.1 next
  after_reads (Grant l u at) (inr cause) next = grant_reads l u at Reader false (inr cause.0) (ap pass_of cause.0) cause.1 next
  after_reads (Passed l) cause next = pass_reads l cause next
  after_reads e cause next = lockless_reads e refl cause next
