-- Locks agree with those who hold them, wait for them and pass them on, after each event.
use Rattle.std.proofs.Common.{◌≡◌, ◌≢◌, ℕ, zero, suc, ◌+◌, ◌-◌, ◌<◌, ◌≤◌, true, false, not, List, [], ◌∷◌, ◌++◌, length, get_or, set, take, Option, Some, None, refl, sym, ap, ◌∙◌, inl, inr, ◌⊎◌, subst, arith}
use Rattle.std.specs.Prelude.{ℤ}
use Rattle.std.proofs.lemmas.Bool.{cases_lt, false≢true, not-true}
use Rattle.sd_basics.proofs.Truths.{and_left}
use Rattle.sd_types.specs.declared.numbers.CpuId.{CpuId}
use Rattle.sd_types.specs.declared.numbers.LockId.{LockId}
use Rattle.sd_types.specs.declared.numbers.Side.{Side}
use Rattle.sd_types.specs.declared.numbers.Side.TheVariants.{Writer, Reader}
use Rattle.sd_types.specs.declared.numbers.ThreadId.{ThreadId}
use Rattle.sd_types.specs.declared.events.Duty.{Duty}
use Rattle.sd_types.specs.declared.events.Duty.TheVariants as duty
use Rattle.sd_types.specs.declared.events.Event.{Event}
use Rattle.sd_types.specs.declared.events.Event.TheVariants as event
use Rattle.sd_types.specs.declared.events.Put.{Put}
use Rattle.sd_types.specs.declared.scripts.Op.{Op}
use Rattle.sd_types.specs.declared.scripts.Op.TheVariants as op
use Rattle.sd_types.specs.declared.works.Work.{Work}
use Rattle.sd_types.specs.Scripts.{is_held, held_by, without_lock, op_fits}
use Rattle.sd_machine.specs.Holders as H
use Rattle.sd_machine.proofs.Moves.{none_some, put_cases}
use Rattle.sd_machine.proofs.HolderLemmas.{count_one}
use Rattle.sd_frames.proofs.ReleaseLemmas.{Outcome, nobody_waits}
use Rattle.sd_frames.proofs.PassLemmas.{drop_duties, Woken, unblock_outcome, Granted, grant_outcome, Passed, pass_outcome}
use Rattle.sd_frames.proofs.PassLemmas.Woken.{more, last}
use Rattle.sd_frames.proofs.PassLemmas.Granted.{to_writer, to_reader}
use Rattle.sd_frames.proofs.PassLemmas.Passed.{to_readers, writer_next, to_nobody, otherwise}
use Rattle.sd_frames.proofs.ReleaseLemmas.Outcome.{freed, passed_on as handed_on, fewer, left, nothing}
use Rattle.sd_state.specs.declared.states.Place.TheVariants.{Waiting}
use Rattle.sd_state.specs.declared.states.LockState.{LockState}
use Rattle.sd_state.specs.declared.states.LockState.TheVariants.{Free, Owned, ReadHeld, Passing}
use Rattle.sd_state.specs.declared.states.State.{State}
use Rattle.sd_state.specs.States.{thread_of, cpu_of}
use Rattle.sd_machine.specs.Shapes.{FitsFully}
use Rattle.sd_state.specs.Operations.{script_of, op_of}
use Rattle.sd_machine.specs.Threads.{thread_id, lock_of, best_waiter}
use Rattle.sd_machine.specs.Changes.{back_key, set_duty}
use Rattle.sd_machine.specs.Locking.{side_of, one_more, one_reader_more, blocked}
use Rattle.sd_machine.specs.Events.{effect, after, drop_ageing, dropped_duty}
use Rattle.sd_machine.proofs.ShapeLemmas.{IsShaped}
use Rattle.sd_frames.specs.Causes.{GivesWay, Acts, wants}
use Rattle.sd_frames.specs.Passing.{pass_of}
use Rattle.sd_invariants.specs.Holding.{lock_state, table, Agreed, DutiesServe, ReadsWell}
use Rattle.sd_frames.specs.Moves.{step_of}
use Rattle.sd_invariants.specs.Scripted.{Scripted}
use Rattle.sd_frames.proofs.Found.{runner_found}
use Rattle.sd_frames.proofs.HoldTable.{held_part, Goes}
use Rattle.sd_frames.proofs.PlaceTable.{Stepped}
use Rattle.sd_invariants.proofs.ScriptLemmas.{HeldGo, StepAway, step_away}
use Rattle.sd_frames.proofs.LockTable as T
use Rattle.sd_frames.proofs.LockTable.{locks_field, duty_part, pass_part, pass_marks}
use Rattle.sd_frames.proofs.FieldWords as F
use Rattle.sd_frames.proofs.CpuWords as C
use Rattle.sd_invariants.proofs.AgreedLemmas as A
use Rattle.sd_frames.proofs.Searches.{waits_has}
use Rattle.sd_invariants.proofs.Works.{op_balances, wanted_fits}
use Rattle.std.proofs.lemmas.Option.{same_Some}

-- What is known of the state before an event.
pub record IsReady (w : Work) (s : State) : Type 0 where
  pub fits : FitsFully w s
  pub scripted : Scripted w s
  pub agreed : Agreed s
  pub serves : DutiesServe w s
  pub reads : ReadsWell w s

-- What is known of the state after it.
pub record IsNext (w : Work) (s r : State) (n : ℕ) (c : CpuId) (e : Event) : Type 0 where
  pub steps : Stepped (step_of w s n c e) s r
  pub held : HeldGo s r e
  pub shape : IsShaped s r

no_pass : (s : State) (c : ℕ) → GivesWay (cpu_of s c).duty → (table s).passes c ≡ None
no_pass s c free = T.free_passes (cpu_of s c).duty free

-- the passes of a duty that one processor alone has anew
put_passes : (s r : State) (c : ℕ) (d : Duty) → T.DutyIs s r c d → ((e : ℕ) → e ≢ c → (table r).passes e ≡ (table s).passes e) × ((table r).passes c ≡ pass_of d)
put_passes s r c d is = (λ e other. ap pass_of (is.put.others e other), ap pass_of is.put.at)

duty_kept : (s r : State) → T.Duties s r → C.Kept pass_part s r
duty_kept s r a = record { each = λ d. ap pass_of (a.each d) }

-- A lock that is not free is there.
pub lock_inside : (s : State) (l : ℕ) → lock_of s l ≢ Free → l < length s.locks
lock_inside s l busy = elim (cases_lt l (length s.locks)) [ inl h ↦ h | inr past ↦ absurd (busy (gone s.locks l past)) ]
  where
    gone : (xs : List LockState) (i : ℕ) → length xs ≤ i → get_or xs i Free ≡ Free
    gone [] i h = refl
    gone (x ∷ xs) zero h = absurd (omega arith)
    gone (x ∷ xs) (suc i) h = gone xs i (omega arith)

pub not_free_owned : (x : LockState) (t : ThreadId) → x ≡ Owned t → x ≢ Free
not_free_owned x t is free = let bad : Owned t ≡ Free = sym is ∙ free in cc

pub not_free_held : (x : LockState) (n : ℕ) → x ≡ ReadHeld n → x ≢ Free
not_free_held x n is free = let bad : ReadHeld n ≡ Free = sym is ∙ free in cc

pub not_free_passing : (x : LockState) (c k : ℕ) → lock_state x ≡ H.Lock.Passing c k → x ≢ Free
not_free_passing x c k is free = let bad : H.Lock.Passing c k ≡ H.Lock.Free = sym is ∙ ap lock_state free in cc

-- what the lock lists are after the events that take a lock
pub enter_locks : (w : Work) (s : State) (n : ℕ) (c : CpuId) (t : ThreadId) (l : LockId) → T.LocksAre s (after w s n c (event.Enter t l)) (set s.locks l.0 (Owned (thread_id t.0)))
unfolding after effect drop_ageing set_duty
enter_locks w s n c t l = record { are = (T.owned_locks w (drop_ageing s c.0 (event.Enter t l)) t.0 l).are }

pub write_locks : (w : Work) (s : State) (n : ℕ) (c : CpuId) (t : ThreadId) (l : LockId) → T.LocksAre s (after w s n c (event.Write t l)) (set s.locks l.0 (Owned (thread_id t.0)))
unfolding after effect drop_ageing set_duty
write_locks w s n c t l = record { are = (T.owned_locks w (drop_ageing s c.0 (event.Write t l)) t.0 l).are }

pub read_locks : (w : Work) (s : State) (n : ℕ) (c : CpuId) (t : ThreadId) (l : LockId) → T.LocksAre s (after w s n c (event.Read t l)) (set s.locks l.0 (one_more (lock_of s l.0)))
unfolding after effect drop_ageing set_duty
read_locks w s n c t l = record { are = (T.read_locks w (drop_ageing s c.0 (event.Read t l)) t.0 l).are }

pub block_locks : (w : Work) (s : State) (n : ℕ) (c : CpuId) (t : ThreadId) (l : LockId) → (after w s n c (event.Block t l)).locks ≡ s.locks
block_locks w s n c t l = (F.after_kept locks_field (λ s t x. refl) (λ s c x. refl) w s n c (event.Block t l) refl).same

-- and what is passed on
pub enter_passes : (w : Work) (s : State) (n : ℕ) (c : CpuId) (t : ThreadId) (l : LockId) → C.Kept pass_part s (after w s n c (event.Enter t l))
unfolding after effect
enter_passes w s n c t l = C.then_kept pass_part s (drop_ageing s c.0 (event.Enter t l)) _ (T.drop_passes s c.0 (event.Enter t l)) (C.owned_kept pass_part pass_marks w _ t.0 l)

pub write_passes : (w : Work) (s : State) (n : ℕ) (c : CpuId) (t : ThreadId) (l : LockId) → C.Kept pass_part s (after w s n c (event.Write t l))
unfolding after effect
write_passes w s n c t l = C.then_kept pass_part s (drop_ageing s c.0 (event.Write t l)) _ (T.drop_passes s c.0 (event.Write t l)) (C.owned_kept pass_part pass_marks w _ t.0 l)

pub read_passes : (w : Work) (s : State) (n : ℕ) (c : CpuId) (t : ThreadId) (l : LockId) → C.Kept pass_part s (after w s n c (event.Read t l))
unfolding after effect
read_passes w s n c t l = C.then_kept pass_part s (drop_ageing s c.0 (event.Read t l)) _ (T.drop_passes s c.0 (event.Read t l)) (C.read_kept pass_part pass_marks w _ t.0 l)

pub block_passes : (w : Work) (s : State) (n : ℕ) (c : CpuId) (t : ThreadId) (l : LockId) → (table s).passes c.0 ≡ None → C.Kept pass_part s (after w s n c (event.Block t l))
unfolding after effect blocked
block_passes w s n c t l free =
    let a = C.then_kept pass_part s (drop_ageing s c.0 (event.Block t l)) _ (T.drop_passes s c.0 (event.Block t l)) (C.leave_kept pass_part pass_marks _ c.0 t.0 (Waiting l (side_of (op_of w t.0 (thread_of (drop_ageing s c.0 (event.Block t l)) t.0).body)) (back_key n))) in
    C.then_kept pass_part s _ _ a (T.duty_passes _ c.0 (duty.Walk l (thread_id t.0) (back_key n)) (sym (a.each c.0 ∙ free)))

module _ (w : Work) (s : State) (n : ℕ) (c : CpuId) (ready : IsReady w s) where
  -- a thread that acts on an operation which wants a lock does not hold it
  pub not_held : (t : ℕ) (o : Op) (l : LockId) (side : Side) → Acts w s c.0 t (Some o) → wants o ≡ Some (l, side) → (table s).holds t l.0 ≡ false
  not_held t o l side acts wanted =
      let inside = (runner_found s c.0 t acts.runs).inside in
      let fits = wanted_fits w t (thread_of s t).body.op o l side acts.stands wanted in
      ap (λ (xs : List LockId). is_held l xs) (ready.scripted t inside).held ∙ not-true _ (and_left (not (is_held l (held_by (take (thread_of s t).body.op (script_of w t))))) _ fits)

  -- and one that waits for it neither
  pub waiter_not_held : (u : ℕ) (l : LockId) (side : Side) (k : ℤ) → u < length s.threads → (thread_of s u).place ≡ Waiting l side k → (table s).holds u l.0 ≡ false
  waiter_not_held u l side k inside is =
      let (o, at, wanted) = (ready.scripted u inside).waits l side k is in
      let fits = wanted_fits w u (thread_of s u).body.op o l side at wanted in
      ap (λ (xs : List LockId). is_held l xs) (ready.scripted u inside).held ∙ not-true _ (and_left (not (is_held l (held_by (take (thread_of s u).body.op (script_of w u))))) _ fits)

  taken : (r : State) (e : Event) (t : ThreadId) (l : LockId) (x : LockState) (o : Op) (side : Side) → Acts w s c.0 t.0 (Some o) → wants o ≡ Some (l, side) → IsNext w s r n c e → StepAway (step_of w s n c e)
      → Goes held_part s r t.0 ((thread_of s t.0).body.held.items ++ l ∷ []) → T.LocksAre s r (set s.locks l.0 x) → C.Kept pass_part s r → l.0 < length s.locks
      → ((d k : ℕ) → lock_state (lock_of s l.0) ≡ H.Lock.Passing d k → ⊥) → H.holders_of (lock_state x) ≡ suc (H.holders_of (lock_state (lock_of s l.0)))
      → ((u : ℕ) → lock_state x ≡ H.Lock.Owned u → u ≡ t.0) → (lock_state x ≡ H.Lock.Free → ⊥) → ((d k : ℕ) → lock_state x ≡ H.Lock.Passing d k → ⊥) → Agreed r
  taken r e t l x o side acts wanted next away held locks passes there unpassed count own not_free not_passing =
      A.agreed_taken s r l c.0 t.0 x ready.agreed (runner_found s c.0 t.0 acts.runs).inside
      (record { many = next.shape.threads; locks = A.locks_put s r l.0 x there locks; waits = λ u m other. A.waits_back (step_of w s n c e) s r next.steps away u m })
      held passes (no_pass s c.0 acts.free) unpassed (not_held t.0 o l side acts wanted) count own not_free not_passing

  pub owned_taken : (r : State) (e : Event) (t : ThreadId) (l : LockId) (o : Op) → Acts w s c.0 t.0 (Some o) → wants o ≡ Some (l, Writer) → IsNext w s r n c e → StepAway (step_of w s n c e)
      → Goes held_part s r t.0 ((thread_of s t.0).body.held.items ++ l ∷ []) → T.LocksAre s r (set s.locks l.0 (Owned (thread_id t.0))) → C.Kept pass_part s r → l.0 < length s.locks → lock_of s l.0 ≡ Free → Agreed r
  owned_taken r e t l o acts wanted next away held locks passes there free =
      taken r e t l (Owned (thread_id t.0)) o Writer acts wanted next away held locks passes there
      (λ d k is. let bad : H.Lock.Free ≡ H.Lock.Passing d k = sym (ap lock_state free) ∙ is in cc)
      (ap suc (sym (ap H.holders_of (ap lock_state free))))
      (λ u is. cc) (λ is. cc) (λ d k is. cc)

  pub read_taken : (r : State) (e : Event) (t : ThreadId) (l : LockId) → Acts w s c.0 t.0 (Some (op.Read l)) → IsNext w s r n c e → StepAway (step_of w s n c e)
      → Goes held_part s r t.0 ((thread_of s t.0).body.held.items ++ l ∷ []) → T.LocksAre s r (set s.locks l.0 (one_more (lock_of s l.0))) → C.Kept pass_part s r → l.0 < length s.locks
      → (x : LockState) → lock_of s l.0 ≡ x → (x ≡ Free) ⊎ ((m : ℕ) × (x ≡ ReadHeld m)) → Agreed r
  read_taken r e t l acts next away held locks passes there x is kind =
      taken r e t l (one_more x) (op.Read l) Reader acts refl next away held (subst (λ y. T.LocksAre s r (set s.locks l.0 (one_more y))) is locks) passes there
      (λ d k at. elim kind [ inl free ↦ (let bad : H.Lock.Free ≡ H.Lock.Passing d k = sym (ap lock_state (is ∙ free)) ∙ at in cc) | inr some ↦ (let bad : H.Lock.Held some.0 ≡ H.Lock.Passing d k = sym (ap lock_state (is ∙ some.1)) ∙ at in cc) ])
      (count kind) (λ u at. own kind u at) (λ at. free_not kind at) (λ d k at. pass_not kind d k at)
    where
      count : (x ≡ Free) ⊎ ((m : ℕ) × (x ≡ ReadHeld m)) → H.holders_of (lock_state (one_more x)) ≡ suc (H.holders_of (lock_state (lock_of s l.0)))
      count (inl free) = ap (λ y. H.holders_of (lock_state (one_more y))) free ∙ ap suc (sym (ap (λ y. H.holders_of (lock_state y)) (is ∙ free)))
      count (inr (m, held)) = ap (λ y. H.holders_of (lock_state (one_more y))) held ∙ (let e : m + 1 ≡ suc m = omega arith in e) ∙ ap suc (sym (ap (λ y. H.holders_of (lock_state y)) (is ∙ held)))

      own : (x ≡ Free) ⊎ ((m : ℕ) × (x ≡ ReadHeld m)) → (u : ℕ) → lock_state (one_more x) ≡ H.Lock.Owned u → u ≡ t.0
      own (inl free) u at = let bad : H.Lock.Held 1 ≡ H.Lock.Owned u = sym (ap (λ y. lock_state (one_more y)) free) ∙ at in cc
      own (inr (m, held)) u at = let bad : H.Lock.Held (m + 1) ≡ H.Lock.Owned u = sym (ap (λ y. lock_state (one_more y)) held) ∙ at in cc

      free_not : (x ≡ Free) ⊎ ((m : ℕ) × (x ≡ ReadHeld m)) → lock_state (one_more x) ≡ H.Lock.Free → ⊥
      free_not (inl free) at = let bad : H.Lock.Held 1 ≡ H.Lock.Free = sym (ap (λ y. lock_state (one_more y)) free) ∙ at in cc
      free_not (inr (m, held)) at = let bad : H.Lock.Held (m + 1) ≡ H.Lock.Free = sym (ap (λ y. lock_state (one_more y)) held) ∙ at in cc

      pass_not : (x ≡ Free) ⊎ ((m : ℕ) × (x ≡ ReadHeld m)) → (d k : ℕ) → lock_state (one_more x) ≡ H.Lock.Passing d k → ⊥
      pass_not (inl free) d k at = let bad : H.Lock.Held 1 ≡ H.Lock.Passing d k = sym (ap (λ y. lock_state (one_more y)) free) ∙ at in cc
      pass_not (inr (m, held)) d k at = let bad : H.Lock.Held (m + 1) ≡ H.Lock.Passing d k = sym (ap (λ y. lock_state (one_more y)) held) ∙ at in cc

  pub blocked_agreed : (r : State) (t : ThreadId) (l : LockId) → IsNext w s r n c (event.Block t l) → r.locks ≡ s.locks → C.Kept pass_part s r → lock_of s l.0 ≢ Free → Agreed r
  blocked_agreed r t l next locks passes busy =
      A.agreed_waits s r l.0 next.shape.threads locks next.held passes back not_free ready.agreed
    where
      not_free : (table s).lock l.0 ≡ H.Lock.Free → ⊥
      not_free is = busy (free_is (lock_of s l.0) is)
        where
          free_is : (x : LockState) → lock_state x ≡ H.Lock.Free → x ≡ Free
          free_is Free e = refl
          free_is (Owned o) e = cc
          free_is (ReadHeld m) e = cc
          free_is (Passing d k) e = cc

      back : (u m : ℕ) → m ≢ l.0 → (table r).waits u ≡ Some m → (table s).waits u ≡ Some m
      back u m other is = elim (put_cases t.0 _ _ _ next.steps u) [
        | inl me ↦ absurd (other (sym (A.waits_lock (thread_of r u).place l (side_of (op_of w t.0 (thread_of s t.0).body)) (back_key n) m me.1 is)))
        | inr him ↦ ap A.wait_lock (sym him.1) ∙ is
      ]

-- The state with the ageing dropped has the same threads and locks.

pub drop_agreed : (s : State) (c : ℕ) (e : Event) → Agreed s → Agreed (drop_ageing s c e)
unfolding drop_ageing set_duty
drop_agreed s c e agreed = A.agreed_quiet s (drop_ageing s c e) refl refl (record { each = λ u. refl }) (T.drop_passes s c e) (λ u m is. is) agreed

module _ (w : Work) (s : State) (n : ℕ) (c : CpuId) (ready : IsReady w s) where
  -- a thread that acts on an operation which gives a lock up holds it
  pub holds_it : (t : ℕ) (o : Op) (l : LockId) → Acts w s c.0 t (Some o) → ((after : Option Op) (held : List LockId) → op_fits held o after ≡ true → is_held l held ≡ true) → (table s).holds t l.0 ≡ true
  holds_it t o l acts gives =
      let inside = (runner_found s c.0 t acts.runs).inside in
      ap (λ (xs : List LockId). is_held l xs) (ready.scripted t inside).held ∙ gives _ _ (op_balances w t (thread_of s t).body.op o acts.stands)

  -- a hold of the lock is given up
  pub given_up : (s0 r : State) (e : Event) (t : ThreadId) (l : LockId) (x : LockState) → GivesWay (cpu_of s c.0).duty → t.0 < length s.threads → (table s).holds t.0 l.0 ≡ true
      → Agreed s0 → length s0.threads ≡ length s.threads → s0.locks ≡ s.locks → ((u m : ℕ) → (table s0).holds u m ≡ (table s).holds u m) → ((u m : ℕ) → (table s).waits u ≡ Some m → (table s0).waits u ≡ Some m)
      → C.Kept pass_part s s0 → lock_of s0 l.0 ≡ x
      → IsNext w s r n c e → StepAway (step_of w s n c e) → Goes held_part s0 r t.0 (without_lock l (thread_of s0 t.0).body.held.items) → length r.threads ≡ length s0.threads
      → Outcome w s0 r c.0 l x → Agreed r
  given_up s0 r e t l x free inside holds agreed many locks same_holds waits passes is next away held shape outcome = by outcome
    where
      at0 : t.0 < length s0.threads
      at0 = omega (arith, many)

      holds0 : (table s0).holds t.0 l.0 ≡ true
      holds0 = same_holds t.0 l.0 ∙ holds

      none : (table s0).passes c.0 ≡ None
      none = passes.each c.0 ∙ no_pass s c.0 free

      back : (u m : ℕ) → (table r).waits u ≡ Some m → (table s0).waits u ≡ Some m
      back u m e' = waits u m (A.waits_back (step_of w s n c e) s r next.steps away u m e')

      there : lock_of s0 l.0 ≢ Free → l.0 < length s0.locks
      there busy = lock_inside s0 l.0 busy

      at : (y : LockState) → lock_of s0 l.0 ≢ Free → r.locks ≡ set s0.locks l.0 y → A.AtLock s0 r l.0 y
      at y busy are = record { many = shape; locks = A.locks_put s0 r l.0 y (there busy) (record { are = are }); waits = λ u m other. back u m }

      total : H.holders_of ((table s0).lock l.0) ≡ H.holders_of (lock_state x)
      total = ap (λ y. H.holders_of (lock_state y)) is

      one : 1 ≤ H.holders_of ((table s0).lock l.0)
      one = let c1 = count_one (λ u. (table s0).holds u l.0) t.0 (length s0.threads) at0 holds0 in let c2 = agreed.holders l.0 in omega arith

      kind_busy : ((o : ThreadId) × (x ≡ Owned o)) ⊎ ((m : ℕ) × (x ≡ ReadHeld m) × (m ≤ 1)) → lock_of s0 l.0 ≢ Free
      kind_busy (inl (o, e')) = not_free_owned (lock_of s0 l.0) o (is ∙ e')
      kind_busy (inr (m, e', le)) = not_free_held (lock_of s0 l.0) m (is ∙ e')

      kind_count : ((o : ThreadId) × (x ≡ Owned o)) ⊎ ((m : ℕ) × (x ≡ ReadHeld m) × (m ≤ 1)) → 1 ≡ H.holders_of ((table s0).lock l.0)
      kind_count (inl (o, e')) = sym (total ∙ ap (λ y. H.holders_of (lock_state y)) e')
      kind_count (inr (m, e', le)) = let m_is : H.holders_of ((table s0).lock l.0) ≡ m = total ∙ ap (λ y. H.holders_of (lock_state y)) e' in omega (arith, one)

      unpassed : ((o : ThreadId) × (x ≡ Owned o)) ⊎ ((m : ℕ) × (x ≡ ReadHeld m)) → (d k : ℕ) → lock_state (lock_of s0 l.0) ≡ H.Lock.Passing d k → ⊥
      unpassed (inl (o, e')) d k bad = let b : H.Lock.Owned o.0 ≡ H.Lock.Passing d k = sym (ap lock_state (is ∙ e')) ∙ bad in cc
      unpassed (inr (m, e')) d k bad = let b : H.Lock.Held m ≡ H.Lock.Passing d k = sym (ap lock_state (is ∙ e')) ∙ bad in cc

      forget : ((o : ThreadId) × (x ≡ Owned o)) ⊎ ((m : ℕ) × (x ≡ ReadHeld m) × (m ≤ 1)) → ((o : ThreadId) × (x ≡ Owned o)) ⊎ ((m : ℕ) × (x ≡ ReadHeld m))
      forget (inl a) = inl a
      forget (inr (m, e', le)) = inr (m, e')

      kept_passes : C.Kept duty_part s0 r → (d : ℕ) → (table r).passes d ≡ (table s0).passes d
      kept_passes a d = ap pass_of (a.each d)

      by : Outcome w s0 r c.0 l x → Agreed r
      by (freed are duties nobody kind) =
          A.agreed_given s0 r l c.0 t.0 Free agreed at0 (at Free (kind_busy kind) are) held (λ d other. kept_passes duties d) none (unpassed (forget kind)) holds0 (kind_count kind)
          (λ u e'. cc) (λ e' u on. false≢true (sym nobody ∙ waits_has s0 l.0 u (A.waits_inside s0 u l.0 (back u l.0 on)) (A.waits_at s0 u l.0 (back u l.0 on))))
          (λ p e'. absurd (none_some ((table s0).passes c.0) p none (sym (kept_passes duties c.0) ∙ e'))) (λ d k e'. cc)
      by (handed_on d are duties suits some kind) =
          let q = put_passes s0 r c.0 d duties in
          let p : H.Pass = record { lock = l.0; alone = suits.alone } in
          let now : (table r).passes c.0 ≡ Some p = q.1 ∙ suits.passes in
          A.agreed_given s0 r l c.0 t.0 (Passing (record { 0 = c.0 }) 0) agreed at0 (at (Passing (record { 0 = c.0 }) 0) (kind_busy kind) are) held q.0 none (unpassed (forget kind)) holds0 (kind_count kind)
          (λ u e'. cc) (λ e' u on. cc)
          (λ z e'. let same : p ≡ z = same_Some p z (sym now ∙ e') in (ap (λ (y : H.Pass). y.lock) (sym same), (0, refl, λ a. refl)))
          (λ e' k bad. let who : c.0 ≡ e' = cc in subst (λ v. (z : H.Pass) × ((table r).passes v ≡ Some z) × (z.lock ≡ l.0)) who (p, now, refl))
      by (fewer m e' two are duties) =
          A.agreed_given s0 r l c.0 t.0 (ReadHeld (m - 1)) agreed at0 (at (ReadHeld (m - 1)) (not_free_held (lock_of s0 l.0) m (is ∙ e')) are) held (λ d other. kept_passes duties d) none (unpassed (inr (m, e'))) holds0
          ((let b : suc (m - 1) ≡ m = omega arith in b) ∙ sym (total ∙ ap (λ y. H.holders_of (lock_state y)) e'))
          (λ u bad. cc) (λ bad u on. cc)
          (λ p bad. absurd (none_some ((table s0).passes c.0) p none (sym (kept_passes duties c.0) ∙ bad))) (λ d k bad. cc)
      by (left d k e' are duties) =
          A.agreed_left s0 r l c.0 t.0 (Passing d (k - 1)) agreed at0 (at (Passing d (k - 1)) (not_free_passing (lock_of s0 l.0) d.0 k (ap lock_state (is ∙ e'))) are) d.0 k (is ∙ e') refl held (duty_kept s0 r duties) none holds0
      by (nothing e') = let bad : H.holders_of ((table s0).lock l.0) ≡ 0 = total ∙ ap (λ y. H.holders_of (lock_state y)) e' in absurd (omega (arith, one))

-- The lock is passed on.

module _ (w : Work) (s : State) (n : ℕ) (c : CpuId) (ready : IsReady w s) (c_in : c.0 < length s.cpus) where
  -- the duty that is no ageing is still there, and what it passes on
  passes0 : (e : Event) (d : Duty) → (cpu_of s c.0).duty ≡ d → dropped_duty e d ≡ d → (cpu_of (drop_ageing s c.0 e) c.0).duty ≡ d
  passes0 e d is same = (drop_duties s c.0 e (ap (λ x. dropped_duty e x) is ∙ same ∙ sym is)).each c.0 ∙ is

  -- who is on its way from a waiter's place waits no more
  pub unblock_agreed : (l : LockId) (u : ThreadId) (at : Put) → (cpu_of s c.0).duty ≡ duty.WakeMutex l → u.0 < length s.threads
      → IsNext w s (after w s n c (event.Unblock l u at)) n c (event.Unblock l u at) → Agreed (after w s n c (event.Unblock l u at))
  unfolding drop_ageing set_duty best_waiter
  unblock_agreed l u at wakes inside next = by (unblock_outcome w s n c l u at c_in)
    where
      agreed0 : Agreed (drop_ageing s c.0 (event.Unblock l u at))
      agreed0 = drop_agreed s c.0 (event.Unblock l u at) ready.agreed

      passing : (table (drop_ageing s c.0 (event.Unblock l u at))).passes c.0 ≡ Some (record { lock = l.0; alone = true })
      passing = ap pass_of (passes0 (event.Unblock l u at) (duty.WakeMutex l) wakes refl)

      was : (k : ℕ) × ((table (drop_ageing s c.0 (event.Unblock l u at))).lock l.0 ≡ H.Lock.Passing c.0 k) × (true ≡ true → k ≡ 0)
      was = agreed0.passed c.0 (record { lock = l.0; alone = true }) passing

      back : (v m : ℕ) → (table (after w s n c (event.Unblock l u at))).waits v ≡ Some m → (table (drop_ageing s c.0 (event.Unblock l u at))).waits v ≡ Some m
      back v m is = A.waits_back (step_of w s n c (event.Unblock l u at)) s (after w s n c (event.Unblock l u at)) next.steps (step_away w s n c (event.Unblock l u at) refl) v m is

      by : Woken (drop_ageing s c.0 (event.Unblock l u at)) (after w s n c (event.Unblock l u at)) c.0 l → Agreed (after w s n c (event.Unblock l u at))
      by (more locks duties some) = A.agreed_quiet (drop_ageing s c.0 (event.Unblock l u at)) (after w s n c (event.Unblock l u at)) next.shape.threads locks (record { each = next.held.each }) (duty_kept _ _ duties) back agreed0
      by (last locks duties none) =
          let q = put_passes (drop_ageing s c.0 (event.Unblock l u at)) (after w s n c (event.Unblock l u at)) c.0 duty.Nothing duties in
          A.agreed_settled (drop_ageing s c.0 (event.Unblock l u at)) (after w s n c (event.Unblock l u at)) l c.0 u.0 Free agreed0 inside
          (record { many = next.shape.threads; locks = A.locks_put (drop_ageing s c.0 (event.Unblock l u at)) (after w s n c (event.Unblock l u at)) l.0 Free (lock_inside s l.0 (not_free_passing (lock_of s l.0) c.0 was.0 was.1)) (record { are = locks }); waits = λ v m other. back v m })
          (record { lock = l.0; alone = true }) was.0 passing refl was.1 (record { each = next.held.each }) q.0 q.1 (sym (was.2 refl)) (λ v bad. cc) (λ d j bad. cc)
          (λ free v on. false≢true (sym none ∙ waits_has (after w s n c (event.Unblock l u at)) l.0 v (A.waits_inside (after w s n c (event.Unblock l u at)) v l.0 on) (A.waits_at (after w s n c (event.Unblock l u at)) v l.0 on)))

  pub grant_agreed : (l : LockId) (u : ThreadId) (at : Put) → ((cpu_of s c.0).duty ≡ duty.GrantWriter l) ⊎ ((cpu_of s c.0).duty ≡ duty.GrantReaders l) → u.0 < length s.threads → (table s).holds u.0 l.0 ≡ false
      → IsNext w s (after w s n c (event.Grant l u at)) n c (event.Grant l u at) → Agreed (after w s n c (event.Grant l u at))
  unfolding drop_ageing set_duty best_waiter
  grant_agreed l u at grants inside unheld next = by (grant_outcome w s n c l u at c_in (kind grants))
    where
      agreed0 : Agreed (drop_ageing s c.0 (event.Grant l u at))
      agreed0 = drop_agreed s c.0 (event.Grant l u at) ready.agreed

      kind : ((cpu_of s c.0).duty ≡ duty.GrantWriter l) ⊎ ((cpu_of s c.0).duty ≡ duty.GrantReaders l)
          → ((cpu_of (drop_ageing s c.0 (event.Grant l u at)) c.0).duty ≡ duty.GrantWriter l) ⊎ ((cpu_of (drop_ageing s c.0 (event.Grant l u at)) c.0).duty ≡ duty.GrantReaders l)
      kind (inl is) = inl (passes0 (event.Grant l u at) (duty.GrantWriter l) is refl)
      kind (inr is) = inr (passes0 (event.Grant l u at) (duty.GrantReaders l) is refl)

      back : (v m : ℕ) → (table (after w s n c (event.Grant l u at))).waits v ≡ Some m → (table (drop_ageing s c.0 (event.Grant l u at))).waits v ≡ Some m
      back v m is = A.waits_back (step_of w s n c (event.Grant l u at)) s (after w s n c (event.Grant l u at)) next.steps (step_away w s n c (event.Grant l u at) refl) v m is

      at_lock : (y : LockState) (d k : ℕ) → lock_state (lock_of s l.0) ≡ H.Lock.Passing d k → (after w s n c (event.Grant l u at)).locks ≡ set s.locks l.0 y → A.AtLock (drop_ageing s c.0 (event.Grant l u at)) (after w s n c (event.Grant l u at)) l.0 y
      at_lock y d k was locks = record { many = next.shape.threads; locks = A.locks_put (drop_ageing s c.0 (event.Grant l u at)) (after w s n c (event.Grant l u at)) l.0 y (lock_inside s l.0 (not_free_passing (lock_of s l.0) d k was)) (record { are = locks }); waits = λ v m other. back v m }

      one_more_of : (x : LockState) (k : ℕ) → lock_state x ≡ H.Lock.Passing c.0 k → lock_state (one_reader_more x) ≡ H.Lock.Passing c.0 (k + 1)
      one_more_of Free k is = cc
      one_more_of (Owned o) k is = cc
      one_more_of (ReadHeld m) k is = cc
      one_more_of (Passing d j) k is = let a : d.0 ≡ c.0 = cc in let b : j ≡ k = cc in ap (λ x. H.Lock.Passing x (j + 1)) a ∙ ap (λ x. H.Lock.Passing c.0 (x + 1)) b

      by : Granted (drop_ageing s c.0 (event.Grant l u at)) (after w s n c (event.Grant l u at)) c.0 l u.0 (cpu_of (drop_ageing s c.0 (event.Grant l u at)) c.0).duty → Agreed (after w s n c (event.Grant l u at))
      by (to_writer is locks duties) =
          let passing : (table (drop_ageing s c.0 (event.Grant l u at))).passes c.0 ≡ Some (record { lock = l.0; alone = true }) = ap pass_of is in
          let was = agreed0.passed c.0 (record { lock = l.0; alone = true }) passing in
          let q = put_passes (drop_ageing s c.0 (event.Grant l u at)) (after w s n c (event.Grant l u at)) c.0 duty.Nothing duties in
          A.agreed_owned (drop_ageing s c.0 (event.Grant l u at)) (after w s n c (event.Grant l u at)) l c.0 u.0 (Owned (thread_id u.0)) agreed0 inside (at_lock (Owned (thread_id u.0)) c.0 was.0 was.1 locks)
          (record { lock = l.0; alone = true }) was.0 passing refl was.1 (was.2 refl) (record { put = next.held.put }) q.0 q.1 unheld refl
      by (to_reader is locks duties) =
          let passing : (table (drop_ageing s c.0 (event.Grant l u at))).passes c.0 ≡ Some (record { lock = l.0; alone = false }) = ap pass_of is in
          let was = agreed0.passed c.0 (record { lock = l.0; alone = false }) passing in
          A.agreed_joined (drop_ageing s c.0 (event.Grant l u at)) (after w s n c (event.Grant l u at)) l c.0 u.0 (one_reader_more (lock_of s l.0)) agreed0 inside (at_lock (one_reader_more (lock_of s l.0)) c.0 was.0 was.1 locks)
          (record { lock = l.0; alone = false }) was.0 passing refl was.1 refl (record { put = next.held.put }) (duty_kept _ _ duties) unheld (one_more_of (lock_of s l.0) was.0 was.1)

  pub pass_agreed : (l : LockId) → (cpu_of s c.0).duty ≡ duty.GrantReaders l
      → (best_waiter s l.0 Writer ≡ None → best_waiter s l.0 Reader ≡ None)
      → IsNext w s (after w s n c (event.Passed l)) n c (event.Passed l) → Agreed (after w s n c (event.Passed l))
  unfolding drop_ageing set_duty best_waiter
  pass_agreed l passes no_reader next = by (pass_outcome w s n c l c_in)
    where
      agreed0 : Agreed (drop_ageing s c.0 (event.Passed l))
      agreed0 = drop_agreed s c.0 (event.Passed l) ready.agreed

      passing : (table (drop_ageing s c.0 (event.Passed l))).passes c.0 ≡ Some (record { lock = l.0; alone = false })
      passing = ap pass_of (passes0 (event.Passed l) (duty.GrantReaders l) passes refl)

      was : (k : ℕ) × ((table (drop_ageing s c.0 (event.Passed l))).lock l.0 ≡ H.Lock.Passing c.0 k) × (false ≡ true → k ≡ 0)
      was = agreed0.passed c.0 (record { lock = l.0; alone = false }) passing

      back : (v m : ℕ) → (table (after w s n c (event.Passed l))).waits v ≡ Some m → (table (drop_ageing s c.0 (event.Passed l))).waits v ≡ Some m
      back v m is = A.waits_back (step_of w s n c (event.Passed l)) s (after w s n c (event.Passed l)) next.steps (step_away w s n c (event.Passed l) refl) v m is

      inside_lock : l.0 < length s.locks
      inside_lock = lock_inside s l.0 (not_free_passing (lock_of s l.0) c.0 was.0 was.1)

      holder : (d : CpuId) (k : ℕ) → lock_of s l.0 ≡ Passing d k → (d.0 ≡ c.0) × (k ≡ was.0)
      holder d k is = let both : H.Lock.Passing d.0 k ≡ H.Lock.Passing c.0 was.0 = sym (ap lock_state is) ∙ was.1 in ((let a : d.0 ≡ c.0 = cc in a), (let b : k ≡ was.0 = cc in b))

      -- any thread will do for a step that moves none; with no thread there is nothing to agree
      at_lock : (y : LockState) → (after w s n c (event.Passed l)).locks ≡ set s.locks l.0 y → A.AtLock (drop_ageing s c.0 (event.Passed l)) (after w s n c (event.Passed l)) l.0 y
      at_lock y locks = record { many = next.shape.threads; locks = A.locks_put (drop_ageing s c.0 (event.Passed l)) (after w s n c (event.Passed l)) l.0 y inside_lock (record { are = locks }); waits = λ v m other. back v m }

      by : Passed (drop_ageing s c.0 (event.Passed l)) (after w s n c (event.Passed l)) c.0 l (lock_of s l.0) → Agreed (after w s n c (event.Passed l))
      by (to_readers d k is one locks duties) =
          let q = put_passes (drop_ageing s c.0 (event.Passed l)) (after w s n c (event.Passed l)) c.0 duty.Nothing duties in
          let h = holder d k is in
          A.agreed_settled_any (drop_ageing s c.0 (event.Passed l)) (after w s n c (event.Passed l)) l c.0 (ReadHeld k) agreed0 (at_lock (ReadHeld k) locks)
          (record { lock = l.0; alone = false }) was.0 passing refl was.1 (record { each = next.held.each }) q.0 q.1 h.1 (λ v bad. cc) (λ e j bad. cc) (λ bad v on. cc)
      by (writer_next d is locks duties some) =
          let q = put_passes (drop_ageing s c.0 (event.Passed l)) (after w s n c (event.Passed l)) c.0 (duty.GrantWriter l) duties in
          let h = holder d 0 is in
          A.agreed_passed_on_any (drop_ageing s c.0 (event.Passed l)) (after w s n c (event.Passed l)) l c.0 (lock_of s l.0) agreed0
          (record { many = next.shape.threads; locks = A.same_put_lock (drop_ageing s c.0 (event.Passed l)) (after w s n c (event.Passed l)) l.0 locks; waits = λ v m other. back v m })
          (record { lock = l.0; alone = false }) was.0 passing refl was.1 (record { each = next.held.each }) q.0 (record { lock = l.0; alone = true }) q.1 refl (λ alone. sym h.1) was.1
      by (to_nobody d is locks duties none) =
          let q = put_passes (drop_ageing s c.0 (event.Passed l)) (after w s n c (event.Passed l)) c.0 duty.Nothing duties in
          let h = holder d 0 is in
          A.agreed_settled_any (drop_ageing s c.0 (event.Passed l)) (after w s n c (event.Passed l)) l c.0 Free agreed0 (at_lock Free locks)
          (record { lock = l.0; alone = false }) was.0 passing refl was.1 (record { each = next.held.each }) q.0 q.1 h.1 (λ v bad. cc) (λ e j bad. cc)
          (λ free v on. nobody_waits s l.0 none (no_reader none) (waits_has s l.0 v (A.waits_inside s v l.0 (back v l.0 on)) (A.waits_at s v l.0 (back v l.0 on))))
      by (otherwise unlike) = absurd (no_such (lock_of s l.0) was.1 unlike)
        where
          no_such : (x : LockState) → lock_state x ≡ H.Lock.Passing c.0 was.0 → ((d : CpuId) (k : ℕ) → x ≢ Passing d k) → ⊥
          no_such Free is unlike = cc
          no_such (Owned o) is unlike = cc
          no_such (ReadHeld m) is unlike = cc
          no_such (Passing d k) is unlike = unlike d k refl
