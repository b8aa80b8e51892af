-- Events that block a thread, take a lock, give one up or pass one on, as moves of the lock graph.
use Rattle.std.proofs.Common.{◌≡◌, ◌≢◌, ℕ, ◌-◌, ◌<◌, true, false, length, set, Option, Some, None, refl, sym, ap, ◌∙◌, subst, inl, inr}
use Rattle.std.specs.Prelude.{option_map}
use Rattle.std.proofs.lemmas.Bool.{cases_eq}
use Rattle.sd_types.specs.declared.numbers.ChanId.{ChanId}
use Rattle.sd_types.specs.declared.numbers.CpuId.{CpuId}
use Rattle.sd_types.specs.declared.numbers.LockId.{LockId}
use Rattle.sd_types.specs.declared.numbers.Side.{Side}
use Rattle.sd_types.specs.declared.numbers.Side.TheVariants.{Writer, Reader}
use Rattle.sd_types.specs.declared.numbers.ThreadId.{ThreadId}
use Rattle.sd_types.specs.declared.events.Duty.TheVariants as duty
use Rattle.sd_types.specs.declared.events.Event.TheVariants.{Enter, Write, Block, Exit, Unblock, Grant, CvWait}
use Rattle.sd_types.specs.declared.events.Put.{Put}
use Rattle.sd_types.specs.declared.scripts.Op.TheVariants as op
use Rattle.sd_types.specs.declared.works.Work.{Work}
use Rattle.sd_types.specs.Priorities.{eff}
use Rattle.sd_types.specs.Willed.{without_number, changed_number}
use Rattle.sd_machine.specs.Graphs as G
use Rattle.sd_machine.proofs.HolderLemmas.{owner_alone, free_unheld}
use Rattle.sd_state.proofs.KeyLemmas.{IsPut}
use Rattle.sd_machine.proofs.Moves.{IsSame, SameEff, IsQuiet, IsBlock, IsRelease, IsAcquire, IsLeave, none_some, unowned}
use Rattle.sd_machine.proofs.Steps.{exact_stays}
use Rattle.sd_state.specs.declared.states.LockState.{LockState}
use Rattle.sd_state.specs.declared.states.LockState.TheVariants.{Free, Owned, ReadHeld, Passing}
use Rattle.sd_state.specs.declared.states.Place.TheVariants.{Ended}
use Rattle.sd_state.specs.declared.states.ThreadState.{ThreadState}
use Rattle.sd_state.specs.declared.states.State.{State}
use Rattle.sd_state.specs.States.{no_thread, thread_of, cpu_of, with_thread}
use Rattle.sd_state.specs.Operations.{op_of}
use Rattle.sd_machine.specs.Threads.{thread_id, lock_of, best_waiter}
use Rattle.sd_machine.specs.Changes.{back_key, place_put, set_duty}
use Rattle.sd_machine.specs.Locking.{side_of, others_waiting, granted, granted_to_writer, granted_to_reader, one_reader_more}
use Rattle.sd_machine.specs.LockGraph.{wait_of, owner_of, walk_of, graph}
use Rattle.sd_machine.specs.Events.{dropped_duty, drop_ageing, effect, after}
use Rattle.sd_machine.proofs.PlaceLemmas.{is_waiter, put_no_waiter}
use Rattle.sd_frames.specs.Causes.{IsCause}
use Rattle.sd_frames.specs.Passing.{pass_of}
use Rattle.sd_invariants.specs.Holding.{lock_state, table}
use Rattle.sd_frames.specs.Moves.{step_of}
use Rattle.sd_frames.specs.Moves.Step.{Go}
use Rattle.sd_invariants.proofs.AgreedAfter.{IsReady, lock_inside, not_free_passing, enter_locks, write_locks, block_locks, holds_it}
use Rattle.sd_invariants.proofs.AgreedEvents.{lock_named}
use Rattle.sd_frames.proofs.CpuWords as C
use Rattle.sd_frames.proofs.Found.{runner_found, waiter_found}
use Rattle.sd_frames.proofs.HoldTable.{numbers_part, numbers_same, looped_part, looped_same, Goes, exited_numbers, cv_waited_numbers, granted_to_writer_numbers, granted_to_reader_numbers}
use Rattle.sd_frames.proofs.LockTable as T
use Rattle.sd_frames.proofs.Parts.{put_item, same_item, same_is_put}
use Rattle.sd_frames.proofs.PassLemmas.{drop_duties, Woken, unblock_outcome}
use Rattle.sd_frames.proofs.PassLemmas.Woken.{more, last}
use Rattle.sd_frames.proofs.PlaceTable.{Stepped}
use Rattle.sd_frames.proofs.ReleaseLemmas.{Outcome, drop_shape, exit_outcome, cv_wait_outcome}
use Rattle.sd_frames.proofs.ReleaseLemmas.Outcome.{freed, passed_on, fewer, left, nothing}
use Rattle.sd_invariants.proofs.ScriptLemmas.{waits_here, away_after}
use Rattle.sd_invariants.proofs.Movers.{mover_of}
use Rattle.sd_frames.proofs.Words.{Same, then_same}
use Rattle.sd_laws.proofs.Begun.{duty_walk, walks_then, none_walks, block_walk}
use Rattle.sd_laws.proofs.ClassThreads.{after_but}
use Rattle.sd_laws.proofs.Exact.{exact_waiting}
use Rattle.sd_laws.proofs.Fields.{dropped_same}
use Rattle.sd_laws.proofs.QuietMoves.{seen_eff, seen_eff_but, runs_away, steps, passed_unowned}
use Rattle.sd_laws.proofs.Views.{no_wait, quiet_waits, leaves_waits, comes_waits, same_owners, put_owners, kept_owners, same_willed, its_willed, other_willed}
use Rattle.sd_laws.proofs.WalkTable.{walk_part, walk_marks, Walks, drop_walks, after_walks, cause_walks}
use Rattle.std.proofs.lemmas.Option.{same_Some}
use Rattle.sd_types.proofs.ScriptLemmas.{gives_exit, gives_wait}

module _ (w : Work) (s : State) (n : ℕ) (c : CpuId) (ready : IsReady w s) where
  -- A thread blocks.

  pub block_move : (t : ThreadId) (l : LockId) → c.0 < length s.cpus → IsCause w s c.0 (Block t l) → IsBlock (graph s) (graph (after w s n c (Block t l))) (back_key n) c.0 t.0 l.0
  block_move t l here cause = record {
    rests = no_wait (thread_of s t.0).place (runs_away s c.0 t.0 cause.1.acts.runs);
    idle = cause_walks w s c.0 (Block t l) refl cause;
    waits = comes_waits t.0 l (side_of (op_of w t.0 (thread_of s t.0).body)) (back_key n) s (after w s n c (Block t l)) (steps w s n c ready (Block t l) cause);
    walks = (block_walk w s n c t l here).put;
    owner = same_owners s (after w s n c (Block t l)) (block_locks w s n c t l);
    willed = same_willed s (after w s n c (Block t l)) numbers;
    looped = (looped_same w s n c (Block t l) refl).each;
    eff = seen_eff None s (after w s n c (Block t l)) (after_but w s n c (Block t l)) tt numbers;
  }
    where
      numbers : Same numbers_part s (after w s n c (Block t l))
      numbers = numbers_same w s n c (Block t l) refl

  -- A free lock is taken.

  taken : (r : State) (t l : ℕ) → G.IsLocal (graph s) → lock_of s l ≡ Free → l < length s.locks → r.locks ≡ set s.locks l (Owned (thread_id t)) → wait_of (thread_of s t).place ≡ None
      → IsSame (graph s).waits (graph r).waits → Same numbers_part s r → Same looped_part s r → Walks s r → SameEff (graph s) (graph r) → IsAcquire (graph s) (graph r) t l
  taken r t l local free inside locks rests waits numbers looped walks eff = record {
    free = unheld;
    owner = put_owners s r l (Owned (thread_id t)) inside locks;
    waits = same_is_put t None waits rests;
    waited = λ v is. absurd (none_some (wait_of (thread_of s t).place) v rests is);
    exact = subst (G.IsExact (graph r) l) (sym (same_willed s r numbers t l ∙ unowned (graph s) local t l unheld)) nobody;
    willed = λ u m other. same_willed s r numbers u m;
    looped = looped.each;
    walks = walks.each;
    eff = eff;
  }
    where
      unheld : owner_of (lock_of s l) ≡ None
      unheld = ap owner_of free

      nobody : (u : ℕ) → G.IsOn (graph r) l u → ⊥
      nobody u (v, is, at) = ready.agreed.free l u (ap lock_state free) (ap (λ (x : Option G.Wait). option_map (λ (y : G.Wait). y.lock) x) (sym (waits u) ∙ is) ∙ ap Some at)

  pub enter_move : (t : ThreadId) (l : LockId) → G.IsLocal (graph s) → IsCause w s c.0 (Enter t l) → IsAcquire (graph s) (graph (after w s n c (Enter t l))) t.0 l.0
  enter_move t l local cause =
      taken (after w s n c (Enter t l)) t.0 l.0 local cause.1 (lock_named w s c.0 t.0 (op.Enter l) ready.fits cause.0 l (λ d e. inl e)) (enter_locks w s n c t l).are
      (no_wait (thread_of s t.0).place (runs_away s c.0 t.0 cause.0.runs))
      (quiet_waits (step_of w s n c (Enter t l)) s (after w s n c (Enter t l)) (steps w s n c ready (Enter t l) cause) tt tt)
      (numbers_same w s n c (Enter t l) refl) (looped_same w s n c (Enter t l) refl) (after_walks w s n c (Enter t l) refl (cause_walks w s c.0 (Enter t l) refl cause))
      (seen_eff None s (after w s n c (Enter t l)) (after_but w s n c (Enter t l)) tt (numbers_same w s n c (Enter t l) refl))

  pub write_move : (t : ThreadId) (l : LockId) → G.IsLocal (graph s) → IsCause w s c.0 (Write t l) → IsAcquire (graph s) (graph (after w s n c (Write t l))) t.0 l.0
  write_move t l local cause =
      taken (after w s n c (Write t l)) t.0 l.0 local cause.1 (lock_named w s c.0 t.0 (op.Write l) ready.fits cause.0 l (λ d e. inr e)) (write_locks w s n c t l).are
      (no_wait (thread_of s t.0).place (runs_away s c.0 t.0 cause.0.runs))
      (quiet_waits (step_of w s n c (Write t l)) s (after w s n c (Write t l)) (steps w s n c ready (Write t l) cause) tt tt)
      (numbers_same w s n c (Write t l) refl) (looped_same w s n c (Write t l) refl) (after_walks w s n c (Write t l) refl (cause_walks w s c.0 (Write t l) refl cause))
      (seen_eff None s (after w s n c (Write t l)) (after_but w s n c (Write t l)) tt (numbers_same w s n c (Write t l) refl))

  -- A hold of a lock is given up: that of its owner, or one of readers'.

  pub data IsGivenUp (r : State) (t l : ℕ) : Type 0 where
    by_owner : IsRelease (graph s) (graph r) t l → IsGivenUp r t l
    by_reader : IsQuiet (graph s) (graph r) → IsGivenUp r t l

  -- what was given up, in either case nobody owns the lock afterwards
  data Left (r : State) (l : ℕ) : Type 0 where
    owned_before : (o : ThreadId) (y : LockState) → lock_of s l ≡ Owned o → r.locks ≡ set s.locks l y → owner_of y ≡ None → Left r l
    unowned_before : (y : LockState) → owner_of (lock_of s l) ≡ None → r.locks ≡ set s.locks l y → owner_of y ≡ None → Left r l

  left_of : (q r : State) (l : LockId) (x : LockState) → q.locks ≡ s.locks → lock_of s l.0 ≡ x → x ≢ Free → Outcome w q r c.0 l x → Left r l.0
  left_of q r l x locks is busy (freed are duties none (inl (o, e))) = owned_before o Free (is ∙ e) (are ∙ ap (λ xs. set xs l.0 Free) locks) refl
  left_of q r l x locks is busy (freed are duties none (inr (m, e, le))) = unowned_before Free (ap owner_of (is ∙ e)) (are ∙ ap (λ xs. set xs l.0 Free) locks) refl
  left_of q r l x locks is busy (passed_on d are duties suits some (inl (o, e))) =
      owned_before o (Passing (record { 0 = c.0 }) 0) (is ∙ e) (are ∙ ap (λ xs. set xs l.0 (Passing (record { 0 = c.0 }) 0)) locks) refl
  left_of q r l x locks is busy (passed_on d are duties suits some (inr (m, e, le))) =
      unowned_before (Passing (record { 0 = c.0 }) 0) (ap owner_of (is ∙ e)) (are ∙ ap (λ xs. set xs l.0 (Passing (record { 0 = c.0 }) 0)) locks) refl
  left_of q r l x locks is busy (fewer m e two are duties) = unowned_before (ReadHeld (m - 1)) (ap owner_of (is ∙ e)) (are ∙ ap (λ xs. set xs l.0 (ReadHeld (m - 1))) locks) refl
  left_of q r l x locks is busy (left d k e are duties) = unowned_before (Passing d (k - 1)) (ap owner_of (is ∙ e)) (are ∙ ap (λ xs. set xs l.0 (Passing d (k - 1))) locks) refl
  left_of q r l x locks is busy (nothing e) = absurd (busy e)

  given_up : (r : State) (t : ℕ) (l : LockId) → G.IsLocal (graph s) → (table s).holds t l.0 ≡ true → wait_of (thread_of s t).place ≡ None
      → IsSame (graph s).waits (graph r).waits → Goes numbers_part s r t (without_number l (thread_of s t).body.willed.items) → Same looped_part s r → Walks s r → SameEff (graph s) (graph r)
      → l.0 < length s.locks → Left r l.0 → IsGivenUp r t l.0
  given_up r t l local holds rests waits numbers looped walks eff inside (owned_before o y is locks free) = by_owner (record {
    own = owner;
    rests = rests;
    owner = record { at = put.at ∙ free; others = put.others };
    gone = its_willed s r t l None numbers;
    willed = other_willed s r t l None numbers;
    waits = waits;
    looped = looped.each;
    walks = walks.each;
    eff = eff;
  })
    where
      put : IsPut l.0 (owner_of y) (graph s).owner (graph r).owner
      put = put_owners s r l.0 y inside locks

      owner : owner_of (lock_of s l.0) ≡ Some t
      owner = ap owner_of is ∙ ap Some (sym (owner_alone (length s.threads) (table s) ready.agreed l.0 o.0 t (ap lock_state is) holds))
  given_up r t l local holds rests waits numbers looped walks eff inside (unowned_before y was locks free) = by_reader (record {
    waits = waits;
    owner = kept_owners s r l.0 y locks (free ∙ sym was);
    willed = λ u m. elim (cases_eq u t) [
      | inl me ↦ elim (cases_eq m l.0) [
        | inl at ↦ subst (λ v. (graph r).willed v m ≡ (graph s).willed v m) (sym me)
            (subst (λ j. (graph r).willed t j ≡ (graph s).willed t j) (sym at) (its_willed s r t l None numbers ∙ sym (unowned (graph s) local t l.0 was)))
        | inr other ↦ other_willed s r t l None numbers u m (λ a b. other b)
      ]
      | inr him ↦ other_willed s r t l None numbers u m (λ a b. him a)
    ];
    looped = looped.each;
    walks = walks.each;
    eff = eff;
  })

  -- a lock that somebody holds is not free
  held_busy : (t l : ℕ) → (table s).holds t l ≡ true → lock_of s l ≢ Free
  held_busy t l holds free = free_unheld (length s.threads) (table s) ready.agreed l t (ap lock_state free) holds

  exit_numbers : (t : ThreadId) (l : LockId) → t.0 < length s.threads → Goes numbers_part s (after w s n c (Exit t l)) t.0 (without_number l (thread_of s t.0).body.willed.items)
  unfolding after effect drop_ageing set_duty
  exit_numbers t l here = record { put = (exited_numbers w (drop_ageing s c.0 (Exit t l)) c t.0 l here).put }

  exit_left : (t : ThreadId) (l : LockId) → c.0 < length s.cpus → lock_of s l.0 ≢ Free → Left (after w s n c (Exit t l)) l.0
  unfolding drop_ageing set_duty
  exit_left t l here busy = left_of (drop_ageing s c.0 (Exit t l)) (after w s n c (Exit t l)) l (lock_of s l.0) refl refl busy (exit_outcome w s n c t l here)

  pub exit_move : (t : ThreadId) (l : LockId) → c.0 < length s.cpus → G.IsLocal (graph s) → IsCause w s c.0 (Exit t l) → IsGivenUp (after w s n c (Exit t l)) t.0 l.0
  exit_move t l here local cause =
      let holds : (table s).holds t.0 l.0 ≡ true = holds_it w s n c ready t.0 (op.Exit l) l cause (gives_exit l) in
      let inside : t.0 < length s.threads = (runner_found s c.0 t.0 cause.runs).inside in
      let numbers = exit_numbers t l inside in
      given_up (after w s n c (Exit t l)) t.0 l local holds (no_wait (thread_of s t.0).place (runs_away s c.0 t.0 cause.runs))
      (quiet_waits (step_of w s n c (Exit t l)) s (after w s n c (Exit t l)) (steps w s n c ready (Exit t l) cause) tt tt)
      numbers (looped_same w s n c (Exit t l) refl) (after_walks w s n c (Exit t l) refl (cause_walks w s c.0 (Exit t l) refl cause))
      (seen_eff_but None s (after w s n c (Exit t l)) t.0 _ (after_but w s n c (Exit t l)) tt numbers
      (away_after (step_of w s n c (Exit t l)) s (after w s n c (Exit t l)) t.0 (steps w s n c ready (Exit t l) cause) tt (runs_away s c.0 t.0 cause.runs)))
      (lock_inside s l.0 (held_busy t.0 l.0 holds)) (exit_left t l here (held_busy t.0 l.0 holds))

  cv_wait_numbers : (t : ThreadId) (k : ChanId) (l : LockId) → t.0 < length s.threads → Goes numbers_part s (after w s n c (CvWait t k l)) t.0 (without_number l (thread_of s t.0).body.willed.items)
  unfolding after effect drop_ageing set_duty
  cv_wait_numbers t k l here = record { put = (cv_waited_numbers w (drop_ageing s c.0 (CvWait t k l)) n c t.0 k l here).put }

  cv_wait_left : (t : ThreadId) (k : ChanId) (l : LockId) → c.0 < length s.cpus → lock_of s l.0 ≢ Free → Left (after w s n c (CvWait t k l)) l.0
  unfolding drop_ageing set_duty
  cv_wait_left t k l here busy = left_of (drop_ageing s c.0 (CvWait t k l)) (after w s n c (CvWait t k l)) l (lock_of s l.0) refl refl busy (cv_wait_outcome w s n c t k l here)

  pub cv_wait_move : (t : ThreadId) (k : ChanId) (l : LockId) → c.0 < length s.cpus → G.IsLocal (graph s) → IsCause w s c.0 (CvWait t k l) → IsGivenUp (after w s n c (CvWait t k l)) t.0 l.0
  cv_wait_move t k l here local cause =
      let holds : (table s).holds t.0 l.0 ≡ true = holds_it w s n c ready t.0 (op.CvWait k l) l cause (gives_wait k l) in
      let inside : t.0 < length s.threads = (runner_found s c.0 t.0 cause.runs).inside in
      let numbers = cv_wait_numbers t k l inside in
      given_up (after w s n c (CvWait t k l)) t.0 l local holds (no_wait (thread_of s t.0).place (runs_away s c.0 t.0 cause.runs))
      (quiet_waits (step_of w s n c (CvWait t k l)) s (after w s n c (CvWait t k l)) (steps w s n c ready (CvWait t k l) cause) refl (mover_of w s n c (CvWait t k l) refl ready.fits ready.agreed cause))
      numbers (looped_same w s n c (CvWait t k l) refl) (after_walks w s n c (CvWait t k l) refl (cause_walks w s c.0 (CvWait t k l) refl cause))
      (seen_eff_but None s (after w s n c (CvWait t k l)) t.0 _ (after_but w s n c (CvWait t k l)) tt numbers
      (away_after (step_of w s n c (CvWait t k l)) s (after w s n c (CvWait t k l)) t.0 (steps w s n c ready (CvWait t k l) cause) refl (runs_away s c.0 t.0 cause.runs)))
      (lock_inside s l.0 (held_busy t.0 l.0 holds)) (cv_wait_left t k l here (held_busy t.0 l.0 holds))

  -- A waiter is woken, or gets the lock.

  -- the waiter that is found waits for that lock
  waits_there : (l : LockId) (side : Side) (u : ℕ) → best_waiter s l.0 side ≡ Some u → (v : G.Wait) → wait_of (thread_of s u).place ≡ Some v → v.lock ≡ l.0
  waits_there l side u best v is =
      let (k, at) = waits_here l side (thread_of s u).place (waiter_found s l.0 side u best).stands in
      ap (λ (x : G.Wait). x.lock) (same_Some v (record { lock = l.0; key = k }) (sym is ∙ ap wait_of at))

  -- it waits no more, and the lock is owned by nobody as before
  left_alone : (r : State) (l : LockId) (side : Side) (u : ℕ) → best_waiter s l.0 side ≡ Some u → owner_of (lock_of s l.0) ≡ None → IsPut u None (graph s).waits (graph r).waits
      → IsSame (graph s).owner (graph r).owner → Same numbers_part s r → Same looped_part s r → Walks s r → SameEff (graph s) (graph r) → IsLeave (graph s) (graph r) u
  left_alone r l side u best free waits owners numbers looped walks eff = record {
    free = λ v is. ap (λ m. owner_of (lock_of s m)) (waits_there l side u best v is) ∙ free;
    waits = waits;
    owner = owners;
    willed = same_willed s r numbers;
    looped = looped.each;
    walks = walks.each;
    eff = eff;
  }

  unblock_owners : (l : LockId) (u : ThreadId) (at : Put) → c.0 < length s.cpus → owner_of (lock_of s l.0) ≡ None → IsSame (graph s).owner (graph (after w s n c (Unblock l u at))).owner
  unfolding drop_ageing set_duty
  unblock_owners l u at here free = by (unblock_outcome w s n c l u at here)
    where
      by : Woken (drop_ageing s c.0 (Unblock l u at)) (after w s n c (Unblock l u at)) c.0 l → IsSame (graph s).owner (graph (after w s n c (Unblock l u at))).owner
      by (more locks duties some) = same_owners s (after w s n c (Unblock l u at)) locks
      by (last locks duties none) = kept_owners s (after w s n c (Unblock l u at)) l.0 Free locks (sym free)

  pub unblock_move : (l : LockId) (u : ThreadId) (at : Put) → c.0 < length s.cpus → IsCause w s c.0 (Unblock l u at) → IsLeave (graph s) (graph (after w s n c (Unblock l u at))) u.0
  unblock_move l u at here cause =
      let r : State = after w s n c (Unblock l u at) in
      let free : owner_of (lock_of s l.0) ≡ None = passed_unowned w s n c ready (record { lock = l.0; alone = true }) (ap pass_of cause.0) in
      let moves : Stepped (Go u.0 (place_put w n u.0 at)) s r = steps w s n c ready (Unblock l u at) cause in
      let numbers : Same numbers_part s r = numbers_same w s n c (Unblock l u at) refl in
      left_alone r l Writer u.0 cause.1 free (leaves_waits u.0 (place_put w n u.0 at) s r moves (put_no_waiter w n u.0 at)) (unblock_owners l u at here free)
      numbers (looped_same w s n c (Unblock l u at) refl) (after_walks w s n c (Unblock l u at) refl (cause_walks w s c.0 (Unblock l u at) refl cause))
      (seen_eff (Some u.0) s r (after_but w s n c (Unblock l u at)) (ap is_waiter moves.at ∙ put_no_waiter w n u.0 at) numbers)

  -- what a grant does is said by the duty
  granted_writer : (l : LockId) (u : ThreadId) (at : Put) → (cpu_of s c.0).duty ≡ duty.GrantWriter l → after w s n c (Grant l u at) ≡ granted_to_writer w (drop_ageing s c.0 (Grant l u at)) n c l u.0 at
  unfolding after effect
  granted_writer l u at is =
      ap (λ d. granted w (drop_ageing s c.0 (Grant l u at)) n c l u.0 at d) ((drop_duties s c.0 (Grant l u at) (ap (λ d. dropped_duty (Grant l u at) d) is ∙ sym is)).each c.0 ∙ is)

  granted_reader : (l : LockId) (u : ThreadId) (at : Put) → (cpu_of s c.0).duty ≡ duty.GrantReaders l → after w s n c (Grant l u at) ≡ granted_to_reader w (drop_ageing s c.0 (Grant l u at)) n l u.0 at
  unfolding after effect
  granted_reader l u at is =
      ap (λ d. granted w (drop_ageing s c.0 (Grant l u at)) n c l u.0 at d) ((drop_duties s c.0 (Grant l u at) (ap (λ d. dropped_duty (Grant l u at) d) is ∙ sym is)).each c.0 ∙ is)

  reader_numbers : (l : LockId) (u : ThreadId) (at : Put) → Same numbers_part s (granted_to_reader w (drop_ageing s c.0 (Grant l u at)) n l u.0 at)
  reader_numbers l u at = then_same numbers_part s (drop_ageing s c.0 (Grant l u at)) _ (dropped_same numbers_part s c.0 (Grant l u at)) (granted_to_reader_numbers w _ n c l u.0 at)

  reader_walks : (l : LockId) (u : ThreadId) (at : Put) → Walks s (granted_to_reader w (drop_ageing s c.0 (Grant l u at)) n l u.0 at)
  reader_walks l u at = C.then_kept walk_part s (drop_ageing s c.0 (Grant l u at)) _ (drop_walks s c.0 (Grant l u at)) (C.granted_to_reader_kept walk_part walk_marks w _ n l u.0 at)

  one_reader_unowned : (x : LockState) → owner_of (one_reader_more x) ≡ owner_of x
  one_reader_unowned Free = refl
  one_reader_unowned (Owned o) = refl
  one_reader_unowned (ReadHeld m) = refl
  one_reader_unowned (Passing d k) = refl

  reader_owners : (l : LockId) (u : ThreadId) (at : Put) → IsSame (graph s).owner (graph (granted_to_reader w (drop_ageing s c.0 (Grant l u at)) n l u.0 at)).owner
  unfolding drop_ageing set_duty
  reader_owners l u at =
      kept_owners s (granted_to_reader w (drop_ageing s c.0 (Grant l u at)) n l u.0 at) l.0 (one_reader_more (lock_of s l.0)) (T.granted_to_reader_locks w (drop_ageing s c.0 (Grant l u at)) n l u.0 at).are (one_reader_unowned (lock_of s l.0))

  -- a reader gets the lock: nobody owns it before and after
  reader_move : (l : LockId) (u : ThreadId) (at : Put) → (cpu_of s c.0).duty ≡ duty.GrantReaders l → best_waiter s l.0 Reader ≡ Some u.0 → IsCause w s c.0 (Grant l u at) → IsLeave (graph s) (graph (after w s n c (Grant l u at))) u.0
  reader_move l u at grants best cause =
      let r : State = after w s n c (Grant l u at) in
      let is : granted_to_reader w (drop_ageing s c.0 (Grant l u at)) n l u.0 at ≡ r = sym (granted_reader l u at grants) in
      let free : owner_of (lock_of s l.0) ≡ None = passed_unowned w s n c ready (record { lock = l.0; alone = false }) (ap pass_of grants) in
      let moves : Stepped (Go u.0 (place_put w n u.0 at)) s r = steps w s n c ready (Grant l u at) cause in
      let numbers : Same numbers_part s r = subst (λ (q : State). Same numbers_part s q) is (reader_numbers l u at) in
      left_alone r l Reader u.0 best free (leaves_waits u.0 (place_put w n u.0 at) s r moves (put_no_waiter w n u.0 at)) (subst (λ (q : State). IsSame (graph s).owner (graph q).owner) is (reader_owners l u at))
      numbers (looped_same w s n c (Grant l u at) refl) (subst (λ (q : State). Walks s q) is (reader_walks l u at))
      (seen_eff (Some u.0) s r (after_but w s n c (Grant l u at)) (ap is_waiter moves.at ∙ put_no_waiter w n u.0 at) numbers)

  writer_numbers : (l : LockId) (u : ThreadId) (at : Put) → u.0 < length s.threads
      → Goes numbers_part s (granted_to_writer w (drop_ageing s c.0 (Grant l u at)) n c l u.0 at) u.0 (changed_number l (others_waiting s l u.0) (thread_of s u.0).body.willed.items)
  unfolding drop_ageing set_duty
  writer_numbers l u at here = record { put = (granted_to_writer_numbers w (drop_ageing s c.0 (Grant l u at)) n c l u.0 at here).put }

  writer_walks : (l : LockId) (u : ThreadId) (at : Put) → c.0 < length s.cpus → walk_of (cpu_of s c.0).duty ≡ None → Walks s (granted_to_writer w (drop_ageing s c.0 (Grant l u at)) n c l u.0 at)
  writer_walks l u at here free =
      none_walks s (granted_to_writer w (drop_ageing s c.0 (Grant l u at)) n c l u.0 at) c.0
      (walks_then s (drop_ageing s c.0 (Grant l u at)) _ c.0 None (drop_walks s c.0 (Grant l u at))
      (duty_walk _ _ c.0 duty.Nothing (T.granted_to_writer_duty w (drop_ageing s c.0 (Grant l u at)) n c l u.0 at (T.cpu_there s _ c.0 (drop_shape s c.0 (Grant l u at)) here)))) free

  writer_owners : (l : LockId) (u : ThreadId) (at : Put) → l.0 < length s.locks → IsPut l.0 (Some u.0) (graph s).owner (graph (granted_to_writer w (drop_ageing s c.0 (Grant l u at)) n c l u.0 at)).owner
  unfolding drop_ageing set_duty
  writer_owners l u at inside =
      put_owners s (granted_to_writer w (drop_ageing s c.0 (Grant l u at)) n c l u.0 at) l.0 (Owned (thread_id u.0)) inside (T.granted_to_writer_locks w (drop_ageing s c.0 (Grant l u at)) n c l u.0 at).are

  -- the greatest of the waiters but the writer is exact once the writer waits no more
  others_exact : (r : State) (l : LockId) (u : ℕ) → u < length s.threads → IsPut u None (graph s).waits (graph r).waits → SameEff (graph s) (graph r) → G.IsExact (graph r) l.0 (others_waiting s l u)
  others_exact r l u inside waits kept =
      let x : ThreadState = record (thread_of s u) { place = Ended } in
      let q : State = with_thread s u x in
      let rest : IsPut u None (graph s).waits (graph q).waits = put_item (λ (y : ThreadState). wait_of y.place) s.threads no_thread u x inside in
      let same : IsSame (graph q).waits (graph r).waits = λ t. elim (cases_eq t u) [
        | inl me ↦ ap (graph r).waits me ∙ waits.at ∙ sym (ap (graph q).waits me ∙ rest.at)
        | inr other ↦ waits.others t other ∙ sym (rest.others t other)
      ] in
      exact_stays (graph q) (graph r) l.0
      (λ t on. (on.0, same t ∙ on.1, on.2))
      (λ t on. (on.0, sym (same t) ∙ on.1, on.2))
      (λ t on. kept t on.0 on.1 ∙ sym (same_item (λ (y : ThreadState). eff y.body) s.threads no_thread u x refl t))
      (others_waiting s l u) (exact_waiting q l.0)

  writer_move : (l : LockId) (u : ThreadId) (at : Put) → c.0 < length s.cpus → (cpu_of s c.0).duty ≡ duty.GrantWriter l → best_waiter s l.0 Writer ≡ Some u.0 → IsCause w s c.0 (Grant l u at)
      → IsAcquire (graph s) (graph (after w s n c (Grant l u at))) u.0 l.0
  writer_move l u at here grants best cause =
      let r : State = after w s n c (Grant l u at) in
      let is : granted_to_writer w (drop_ageing s c.0 (Grant l u at)) n c l u.0 at ≡ r = sym (granted_writer l u at grants) in
      let free : owner_of (lock_of s l.0) ≡ None = passed_unowned w s n c ready (record { lock = l.0; alone = true }) (ap pass_of grants) in
      let its = ready.agreed.passed c.0 (record { lock = l.0; alone = true }) (ap pass_of grants) in
      let inside : u.0 < length s.threads = (waiter_found s l.0 Writer u.0 best).inside in
      let moves : Stepped (Go u.0 (place_put w n u.0 at)) s r = steps w s n c ready (Grant l u at) cause in
      let waits : IsPut u.0 None (graph s).waits (graph r).waits = leaves_waits u.0 (place_put w n u.0 at) s r moves (put_no_waiter w n u.0 at) in
      let away : is_waiter (thread_of r u.0).place ≡ false = ap is_waiter moves.at ∙ put_no_waiter w n u.0 at in
      let numbers : Goes numbers_part s r u.0 (changed_number l (others_waiting s l u.0) (thread_of s u.0).body.willed.items) =
      subst (λ (q : State). Goes numbers_part s q u.0 (changed_number l (others_waiting s l u.0) (thread_of s u.0).body.willed.items)) is (writer_numbers l u at inside) in
      let kept : SameEff (graph s) (graph r) = seen_eff_but (Some u.0) s r u.0 _ (after_but w s n c (Grant l u at)) away numbers away in
      record {
        free = free;
        owner = subst (λ (q : State). IsPut l.0 (Some u.0) (graph s).owner (graph q).owner) is (writer_owners l u at (lock_inside s l.0 (not_free_passing (lock_of s l.0) c.0 its.0 its.1)));
        waits = waits;
        waited = waits_there l Writer u.0 best;
        exact = subst (G.IsExact (graph r) l.0) (sym (its_willed s r u.0 l (others_waiting s l u.0) numbers)) (others_exact r l u.0 inside waits kept);
        willed = other_willed s r u.0 l (others_waiting s l u.0) numbers;
        looped = (looped_same w s n c (Grant l u at) refl).each;
        walks = (subst (λ (q : State). Walks s q) is (writer_walks l u at here (ap walk_of grants))).each;
        eff = kept;
      }

  -- a waiter gets the lock, or is one of its readers
  pub data IsGiven (r : State) (u l : ℕ) : Type 0 where
    as_writer : IsAcquire (graph s) (graph r) u l → IsGiven r u l
    as_reader : IsLeave (graph s) (graph r) u → IsGiven r u l

  pub grant_move : (l : LockId) (u : ThreadId) (at : Put) → c.0 < length s.cpus → IsCause w s c.0 (Grant l u at) → IsGiven (after w s n c (Grant l u at)) u.0 l.0
  grant_move l u at here (inl cause) = as_writer (writer_move l u at here cause.0 cause.1 (inl cause))
  grant_move l u at here (inr cause) = as_reader (reader_move l u at cause.0 cause.1 (inr cause))
