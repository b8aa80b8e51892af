-- Events that the chains do not see.
use Rattle.std.proofs.Common.{◌≡◌, ◌≢◌, ℕ, ◌<◌, Bool, true, false, length, Option, Some, None, refl, sym, ap, ◌∙◌, inl, inr}
use Rattle.std.specs.Prelude.{⊤}
use Rattle.std.proofs.lemmas.Option.{none-some, same_Some}
use Rattle.sd_basics.proofs.Truths.{and_left}
use Rattle.sd_types.specs.declared.numbers.CpuId.{CpuId}
use Rattle.sd_types.specs.declared.numbers.LockId.{LockId}
use Rattle.sd_types.specs.declared.numbers.ThreadId.{ThreadId}
use Rattle.sd_types.specs.declared.events.Duty.TheVariants as duty
use Rattle.sd_types.specs.declared.events.Event.{Event}
use Rattle.sd_types.specs.declared.events.Event.TheVariants.{Tick, Spin, Preempt, Napend, Wake, Rouse, Read, Unblock, Grant, Passed, Age, Prio, SemaVWake}
use Rattle.sd_types.specs.declared.works.Work.{Work}
use Rattle.sd_types.specs.Willed.{Numbers}
use Rattle.sd_machine.specs.Graphs as G
use Rattle.sd_machine.specs.Holders as H
use Rattle.sd_machine.proofs.Moves.{IsSame, IsQuiet, SameEff}
use Rattle.sd_state.specs.declared.states.LockState.{LockState}
use Rattle.sd_state.specs.declared.states.LockState.TheVariants.{Free, Owned, ReadHeld, Passing}
use Rattle.sd_state.specs.declared.states.State.{State}
use Rattle.sd_state.specs.States.{thread_of, cpu_of}
use Rattle.sd_machine.specs.Threads.{lock_of, is_ts, runner}
use Rattle.sd_machine.specs.Changes.{set_duty}
use Rattle.sd_machine.specs.Locking.{one_more}
use Rattle.sd_machine.specs.LockGraph.{wait_of, owner_of, graph}
use Rattle.sd_machine.specs.Events.{drop_ageing, after}
use Rattle.sd_frames.specs.Causes.{IsCause}
use Rattle.sd_frames.specs.Passing.{pass_of}
use Rattle.sd_invariants.specs.Holding.{lock_state}
use Rattle.sd_frames.specs.Moves.{Step, step_of}
use Rattle.sd_invariants.proofs.AgreedAfter.{IsReady, read_locks}
use Rattle.sd_frames.proofs.Found.{runner_found, age_found}
use Rattle.sd_frames.proofs.HoldTable.{numbers_part, leaves_numbers, numbers_same, looped_part, leaves_looped, looped_same, Goes}
use Rattle.sd_frames.proofs.LockTable.{is_lockless, quiet_locks}
use Rattle.sd_invariants.proofs.Movers.{ends_wait, mover_of, mover_there, queued_away}
use Rattle.sd_frames.proofs.PassLemmas.{Passed as WasPassed, pass_outcome}
use Rattle.sd_frames.proofs.PassLemmas.Passed.{to_readers, writer_next, to_nobody, otherwise}
use Rattle.sd_frames.proofs.PlaceTable.{Stepped, step_needs, after_steps}
use Rattle.sd_machine.specs.Accounts.{is_block}
use Rattle.sd_machine.proofs.PlaceLemmas.{is_waiter}
use Rattle.sd_invariants.proofs.ScriptLemmas.{runs_no_waiter, StepAway, step_away, away_after}
use Rattle.sd_frames.proofs.Words.{Same}
use Rattle.sd_frames.proofs.ThreadParts.{makes_only}
use Rattle.sd_laws.proofs.ClassThreads.{But, class_thread, after_but}
use Rattle.sd_laws.proofs.Views.{away_waits, quiet_waits, same_owners, kept_owners, same_willed, same_eff}
use Rattle.sd_laws.proofs.WalkTable.{Walks, keeps_walks, after_walks, is_walking, cause_walks}

-- Priorities of threads that wait.

-- the thread waits for no lock
abbrev pub AwayAt : State → Option ℕ → Type 0
AwayAt s None = ⊤
AwayAt s (Some t) = is_waiter (thread_of s t).place ≡ false

pub away_later : (o : Option ℕ) (step : Step) (s r : State) → Stepped step s r → StepAway step → AwayAt s o → AwayAt r o
away_later None step s r a away before = tt
away_later (Some t) step s r a away before = away_after step s r t a away before

-- a thread that waits is not the one that does not
waits_apart : (r : State) (t u : ℕ) (v : G.Wait) → is_waiter (thread_of r t).place ≡ false → wait_of (thread_of r u).place ≡ Some v → u ≢ t
waits_apart r t u v away is same = away_waits (thread_of r u).place v (ap (λ x. is_waiter (thread_of r x).place) same ∙ away) is

pub seen_class : (o : Option ℕ) (s r : State) → But o s r → AwayAt r o → (u : ℕ) (v : G.Wait) → wait_of (thread_of r u).place ≡ Some v → (thread_of r u).body.class ≡ (thread_of s u).body.class
seen_class None s r b away u v is = b.each u (λ e. none-some u e)
seen_class (Some t) s r b away u v is = b.each u (λ e. waits_apart r t u v away is (sym (same_Some t u e)))

pub seen_eff : (o : Option ℕ) (s r : State) → But o s r → AwayAt r o → Same numbers_part s r → SameEff (graph s) (graph r)
seen_eff o s r b away numbers = λ u v is. same_eff s r u (seen_class o s r b away u v is) (numbers.each u)

-- the numbers of a thread change that does not wait afterwards
pub seen_eff_but : (o : Option ℕ) (s r : State) (t : ℕ) (ws : Numbers) → But o s r → AwayAt r o → Goes numbers_part s r t ws → is_waiter (thread_of r t).place ≡ false → SameEff (graph s) (graph r)
seen_eff_but o s r t ws b away numbers apart = λ u v is. same_eff s r u (seen_class o s r b away u v is) (numbers.put.others u (waits_apart r t u v apart is))

pub runs_away : (s : State) (c t : ℕ) → runner s c ≡ Some t → is_waiter (thread_of s t).place ≡ false
runs_away s c t e = runs_no_waiter c (thread_of s t).place (runner_found s c t e).stands

-- the event ends no wait for a lock, and asks for no other class parameters
abbrev pub spares_waiters : Event → Bool
spares_waiters (Unblock l u at) = false
spares_waiters (Grant l u at) = false
spares_waiters (Prio t u answer) = false
spares_waiters _ = true

module _ (w : Work) (s : State) (n : ℕ) (c : CpuId) (ready : IsReady w s) where
  pub steps : (e : Event) → IsCause w s c.0 e → Stepped (step_of w s n c e) s (after w s n c e)
  steps e cause = after_steps w s n c e (step_needs w s c.0 e cause) (mover_there w s n c e ready.fits ready.agreed cause)

  -- a thread whose class changes does not wait for a lock
  class_away : (e : Event) → spares_waiters e ≡ true → IsCause w s c.0 e → AwayAt s (class_thread e)
  class_away (Tick t) quiet cause = runs_away s c.0 t.0 cause.0.1.runs
  class_away (Spin t l) quiet cause = runs_away s c.0 t.0 cause.0.1.acts.runs
  class_away (Preempt t end) quiet cause = runs_away s c.0 t.0 cause.0.runs
  class_away (Napend t at) quiet cause = (mover_of w s n c (Napend t at) refl ready.fits ready.agreed cause).away
  class_away (Wake t k None) quiet cause = tt
  class_away (Wake t k (Some u)) quiet cause = (mover_of w s n c (Wake t k (Some u)) refl ready.fits ready.agreed cause).away
  class_away (Rouse k None) quiet cause = tt
  class_away (Rouse k (Some u)) quiet cause = (mover_of w s n c (Rouse k (Some u)) refl ready.fits ready.agreed cause).away
  class_away (Age t p) quiet cause = queued_away c.0 (thread_of s t.0).place (and_left _ (is_ts (thread_of s t.0).body.class) (age_found s c.0 (cause.0).0 t.0 cause.2).stands)
  class_away (SemaVWake t k u at) quiet cause = (mover_of w s n c (SemaVWake t k u at) refl ready.fits ready.agreed cause).away
  class_away (Unblock l u at) quiet cause = cc
  class_away (Grant l u at) quiet cause = cc
  class_away (Prio t u answer) quiet cause = cc
  class_away _ quiet cause = tt

  pub class_away_after : (e : Event) → spares_waiters e ≡ true → is_block e ≡ false → IsCause w s c.0 e → AwayAt (after w s n c e) (class_thread e)
  class_away_after e quiet stays cause = away_later (class_thread e) (step_of w s n c e) s (after w s n c e) (steps e cause) (step_away w s n c e stays) (class_away e quiet cause)

  -- where the locks, the numbers, the loops and the walks stay
  quiet_by : (e : Event) → spares_waiters e ≡ true → is_block e ≡ false → ends_wait e ≡ false → IsCause w s c.0 e → IsSame (graph s).owner (graph (after w s n c e)).owner
      → Same numbers_part s (after w s n c e) → Same looped_part s (after w s n c e) → Walks s (after w s n c e) → IsQuiet (graph s) (graph (after w s n c e))
  quiet_by e quiet stays going cause owners numbers looped walks = record {
    waits = quiet_waits (step_of w s n c e) s (after w s n c e) (steps e cause) (step_away w s n c e stays) (mover_of w s n c e going ready.fits ready.agreed cause);
    owner = owners;
    willed = same_willed s (after w s n c e) numbers;
    looped = looped.each;
    walks = walks.each;
    eff = seen_eff (class_thread e) s (after w s n c e) (after_but w s n c e) (class_away_after e quiet stays cause) numbers;
  }

  -- an event that is none of locks
  pub plain_move : (e : Event) → spares_waiters e ≡ true → is_block e ≡ false → ends_wait e ≡ false → is_lockless e ≡ true → makes_only leaves_numbers e ≡ true → makes_only leaves_looped e ≡ true → keeps_walks e ≡ true → is_walking e ≡ false → IsCause w s c.0 e
      → IsQuiet (graph s) (graph (after w s n c e))
  plain_move e quiet stays going lockless numbers looped keeps free cause = quiet_by e quiet stays going cause
      (same_owners s (after w s n c e) (quiet_locks w s n c e lockless))
      (numbers_same w s n c e numbers) (looped_same w s n c e looped)
      (after_walks w s n c e keeps (cause_walks w s c.0 e free cause))

  -- A lock is read: it was free or readers held it.

  one_more_unowned : (x : LockState) → owner_of (one_more x) ≡ None
  one_more_unowned Free = refl
  one_more_unowned (Owned o) = refl
  one_more_unowned (ReadHeld m) = refl
  one_more_unowned (Passing d k) = refl

  pub read_move : (t : ThreadId) (l : LockId) → IsCause w s c.0 (Read t l) → IsQuiet (graph s) (graph (after w s n c (Read t l)))
  read_move t l cause = quiet_by (Read t l) refl refl refl cause
      (kept_owners s (after w s n c (Read t l)) l.0 (one_more (lock_of s l.0)) (read_locks w s n c t l).are (one_more_unowned (lock_of s l.0) ∙ sym unowned))
      (numbers_same w s n c (Read t l) refl) (looped_same w s n c (Read t l) refl)
      (after_walks w s n c (Read t l) refl (cause_walks w s c.0 (Read t l) refl cause))
    where
      unowned : owner_of (lock_of s l.0) ≡ None
      unowned = elim cause.1 [ inl free ↦ ap owner_of free | inr held ↦ ap owner_of held.1 ]

  -- A lock is passed on.

  pub passing_unowned : (l : ℕ) (k : ℕ) → lock_state (lock_of s l) ≡ H.Lock.Passing c.0 k → owner_of (lock_of s l) ≡ None
  passing_unowned l k = by (lock_of s l)
    where
      by : (x : LockState) → lock_state x ≡ H.Lock.Passing c.0 k → owner_of x ≡ None
      by Free is = refl
      by (Owned o) is = cc
      by (ReadHeld m) is = refl
      by (Passing d j) is = refl

  -- a lock that processor c has to pass on is owned by nobody
  pub passed_unowned : (p : H.Pass) → pass_of (cpu_of s c.0).duty ≡ Some p → owner_of (lock_of s p.lock) ≡ None
  passed_unowned p is = let its = ready.agreed.passed c.0 p is in passing_unowned p.lock its.0 its.1

  passed_owners : (l : LockId) → c.0 < length s.cpus → (cpu_of s c.0).duty ≡ duty.GrantReaders l → IsSame (graph s).owner (graph (after w s n c (Passed l))).owner
  unfolding drop_ageing set_duty
  passed_owners l here duty = by (pass_outcome w s n c l here)
    where
      free : owner_of (lock_of s l.0) ≡ None
      free = passed_unowned (record { lock = l.0; alone = false }) (ap pass_of duty)

      was : (k : ℕ) × (lock_state (lock_of s l.0) ≡ H.Lock.Passing c.0 k) × (false ≡ true → k ≡ 0)
      was = ready.agreed.passed c.0 (record { lock = l.0; alone = false }) (ap pass_of duty)

      by : WasPassed (drop_ageing s c.0 (Passed l)) (after w s n c (Passed l)) c.0 l (lock_of s l.0) → IsSame (graph s).owner (graph (after w s n c (Passed l))).owner
      by (to_readers d k is one locks duties) = kept_owners s (after w s n c (Passed l)) l.0 (ReadHeld k) locks (sym free)
      by (writer_next d is locks duties some) = same_owners s (after w s n c (Passed l)) locks
      by (to_nobody d is locks duties none) = kept_owners s (after w s n c (Passed l)) l.0 Free locks (sym free)
      by (otherwise unlike) = absurd (no_such (lock_of s l.0) was.1 unlike)
        where
          no_such : (x : LockState) → lock_state x ≡ H.Lock.Passing c.0 was.0 → ((d : CpuId) (k : ℕ) → x ≢ Passing d k) → ⊥
          no_such Free is unlike = cc
          no_such (Owned o) is unlike = cc
          no_such (ReadHeld m) is unlike = cc
          no_such (Passing d k) is unlike = unlike d k refl

  pub passed_move : (l : LockId) → c.0 < length s.cpus → IsCause w s c.0 (Passed l) → IsQuiet (graph s) (graph (after w s n c (Passed l)))
  passed_move l here cause = quiet_by (Passed l) refl refl refl cause (passed_owners l here cause.0)
      (numbers_same w s n c (Passed l) refl) (looped_same w s n c (Passed l) refl)
      (after_walks w s n c (Passed l) refl (cause_walks w s c.0 (Passed l) refl cause))
