-- Locks agree with those who hold them, wait for them and pass them on: kept by each kind of event.
use Rattle.std.proofs.Common.{◌≡◌, ◌≢◌, ℕ, zero, suc, ◌+◌, ◌-◌, ◌<◌, ◌≤◌, true, false, ◌||◌, eqb, List, [], ◌∷◌, ◌++◌, length, get_or, set, Option, Some, None, option_map, refl, sym, ap, ◌∙◌, inl, inr, ◌⊎◌, subst, arith}
use Rattle.std.specs.Prelude.{ℤ, ◌==◌}
use Rattle.std.proofs.lemmas.Bool.{cases_eq, cases_lt, cases_Bool, false≢true, eqb-true}
use Rattle.std.proofs.lemmas.Bool.Decides.{nat_tests}
use Rattle.sd_types.specs.declared.numbers.LockId.{LockId}
use Rattle.sd_types.specs.declared.numbers.Side.{Side}
use Rattle.sd_types.specs.Scripts.{is_lock, is_held, without_lock}
use Rattle.sd_machine.specs.Graphs as G
use Rattle.sd_machine.specs.Holders as H
use Rattle.sd_state.proofs.KeyLemmas.{IsPut}
use Rattle.sd_machine.proofs.Moves.{none_some}
use Rattle.sd_machine.proofs.HolderLemmas.{count_same, count_one, IsAt, agreed_at}
use Rattle.sd_machine.proofs.HolderLemmas.IsHeldAfter.{stays, comes, goes}
use Rattle.sd_state.specs.declared.states.Place.{Place}
use Rattle.sd_state.specs.declared.states.Place.TheVariants.{Waiting}
use Rattle.sd_state.specs.declared.states.LockState.{LockState}
use Rattle.sd_state.specs.declared.states.LockState.TheVariants.{Free, Passing}
use Rattle.sd_state.specs.declared.states.ThreadState.{ThreadState}
use Rattle.sd_state.specs.declared.states.State.{State}
use Rattle.sd_state.specs.States.{thread_of, no_thread}
use Rattle.sd_machine.specs.Threads.{lock_of, is_waiting}
use Rattle.sd_machine.specs.LockGraph.{wait_of}
use Rattle.sd_invariants.specs.Holding.{lock_state, table, Agreed}
use Rattle.sd_frames.specs.Moves.{Step}
use Rattle.sd_frames.proofs.Parts.{put_item}
use Rattle.sd_frames.proofs.Words.{Same}
use Rattle.sd_frames.proofs.HoldTable.{held_part, Goes}
use Rattle.sd_frames.proofs.PlaceTable.{Stepped}
use Rattle.sd_invariants.proofs.ScriptLemmas.{StepAway, waits_after}
use Rattle.sd_frames.proofs.LockTable.{pass_part, LocksAre}
use Rattle.sd_frames.proofs.CpuWords as C
use Rattle.std.proofs.lemmas.Option.{same_Some}
use Rattle.sd_types.proofs.ScriptLemmas.{held_last}

-- Held locks.

without_held : (l : LockId) (held : List LockId) → is_held l (without_lock l held) ≡ false
without_held l [] = refl
without_held l (m ∷ ms) = elim (cases_Bool (is_lock l m)) [
  | inl is ↦ rw is (without_held l ms)
  | inr other ↦ rw other (rw other (without_held l ms))
]

without_other : (l : LockId) (m : ℕ) (held : List LockId) → m ≢ l.0 → is_held (record { 0 = m }) (without_lock l held) ≡ is_held (record { 0 = m }) held
without_other l m [] other = refl
without_other l m (k ∷ ks) other = elim (cases_Bool (is_lock l k)) [
  | inl is ↦
      let at = eqb-true l.0 k.0 is in
      let apart : eqb m k.0 ≡ false = grind (arith, nat_tests) in
      rw is (rw apart (without_other l m ks other))
  | inr away ↦ rw away (ap (λ b. eqb m k.0 || b) (without_other l m ks other))
]

with_held_other : (l : LockId) (m : ℕ) (held : List LockId) → m ≢ l.0 → is_held (record { 0 = m }) (held ++ l ∷ []) ≡ is_held (record { 0 = m }) held
with_held_other l m [] other = let apart : eqb m l.0 ≡ false = grind (arith, nat_tests) in rw apart refl
with_held_other l m (k ∷ ks) other = ap (λ b. eqb m k.0 || b) (with_held_other l m ks other)

-- Who waits for what.

pub waits_is : (p : Place) (m : ℕ) → option_map (λ (x : G.Wait). x.lock) (wait_of p) ≡ Some m → (l : LockId) × (side : Side) × (k : ℤ) × (p ≡ Waiting l side k) × (l.0 ≡ m)
waits_is (Waiting l side k) m e = (l, side, k, refl, same_Some l.0 m e)
waits_is p m e = cc

-- the lock for which a thread at a place waits
abbrev pub wait_lock : Place → Option ℕ
wait_lock p = option_map (λ (x : G.Wait). x.lock) (wait_of p)

pub waits_lock : (p : Place) (l : LockId) (side : Side) (k : ℤ) (m : ℕ) → p ≡ Waiting l side k → wait_lock p ≡ Some m → l.0 ≡ m
waits_lock p l side k m is e = same_Some l.0 m (sym (ap wait_lock is) ∙ e)

pub waits_at : (s : State) (u m : ℕ) → (table s).waits u ≡ Some m → is_waiting m (thread_of s u).place ≡ true
waits_at s u m e =
    let (l, side, k, is, at) = waits_is (thread_of s u).place m e in
    subst (λ p. is_waiting m p ≡ true) (sym is) (let same : (l.0 == m) ≡ true = grind (arith, nat_tests) in same)

-- a thread number past the end waits for nothing
pub waits_inside : (s : State) (u m : ℕ) → (table s).waits u ≡ Some m → u < length s.threads
waits_inside s u m e = by (get_inside s.threads u)
  where
    past : (xs : List ThreadState) (v : ℕ) → length xs ≤ v → get_or xs v no_thread ≡ no_thread
    past [] v h = refl
    past (x ∷ xs) zero h = absurd (omega arith)
    past (x ∷ xs) (suc v) h = past xs v (omega arith)

    get_inside : (xs : List ThreadState) (v : ℕ) → (v < length xs) ⊎ (get_or xs v no_thread ≡ no_thread)
    get_inside xs v = elim (cases_lt v (length xs)) [ inl h ↦ inl h | inr h ↦ inr (past xs v h) ]

    by : (u < length s.threads) ⊎ (get_or s.threads u no_thread ≡ no_thread) → u < length s.threads
    by (inl h) = h
    by (inr gone) = absurd (none_some (option_map (λ (x : G.Wait). x.lock) (wait_of (thread_of s u).place)) m (ap (λ (x : ThreadState). option_map (λ (y : G.Wait). y.lock) (wait_of x.place)) gone) e)

-- an event that makes nobody wait: who waits after it waited before
pub waits_back : (step : Step) (s r : State) → Stepped step s r → StepAway step → (u m : ℕ) → (table r).waits u ≡ Some m → (table s).waits u ≡ Some m
waits_back step s r a away u m e =
    let (l, side, k, is, at) = waits_is (thread_of r u).place m e in
    ap (λ (p : Place). option_map (λ (x : G.Wait). x.lock) (wait_of p)) (waits_after step s r u a away l side k is) ∙ ap Some at

-- Nothing is taken, given up or passed on.
pub agreed_quiet : (s r : State) → length r.threads ≡ length s.threads → r.locks ≡ s.locks → Same held_part s r → C.Kept pass_part s r
    → ((u m : ℕ) → (table r).waits u ≡ Some m → (table s).waits u ≡ Some m) → Agreed s → Agreed r
agreed_quiet s r many locks held passes waits agreed = subst (λ n. H.IsAgreed n (table r)) (sym many) (record {
  holders = λ l. count_same (λ u. (table s).holds u l) (λ u. (table r).holds u l) (length s.threads) (λ u lt. holds u l) ∙ agreed.holders l ∙ ap H.holders_of (sym (lock l));
  owner = λ l t is. let old = agreed.owner l t (sym (lock l) ∙ is) in (old.0, holds t l ∙ old.1);
  free = λ l t is at. agreed.free l t (sym (lock l) ∙ is) (waits t l at);
  passing = λ l c k is. let old = agreed.passing l c k (sym (lock l) ∙ is) in (old.0, passes.each c ∙ old.1, old.2);
  passed = λ c p is. let old = agreed.passed c p (sym (passes.each c) ∙ is) in (old.0, lock p.lock ∙ old.1, old.2);
  inside = λ t l is. agreed.inside t l (sym (holds t l) ∙ is);
})
  where
    lock : (l : ℕ) → (table r).lock l ≡ (table s).lock l
    lock l = ap (λ (xs : List LockState). lock_state (get_or xs l Free)) locks

    holds : (u l : ℕ) → (table r).holds u l ≡ (table s).holds u l
    holds u l = ap (λ (xs : List LockId). is_held (record { 0 = l }) xs) (held.each u)

-- Steps at one lock.

pub record AtLock (s r : State) (l : ℕ) (x : LockState) : Type 0 where
  pub many : length r.threads ≡ length s.threads
  pub locks : IsPut l x (λ m. lock_of s m) (λ m. lock_of r m)
  pub waits : (u m : ℕ) → m ≢ l → (table r).waits u ≡ Some m → (table s).waits u ≡ Some m

pub locks_put : (s r : State) (l : ℕ) (x : LockState) → l < length s.locks → LocksAre s r (set s.locks l x) → IsPut l x (λ m. lock_of s m) (λ m. lock_of r m)
locks_put s r l x inside are = subst (λ (xs : List LockState). IsPut l x (λ m. lock_of s m) (λ m. get_or xs m Free)) (sym are.are) (put_item (λ (y : LockState). y) s.locks Free l x inside)

module _ (s r : State) (l : LockId) (c t : ℕ) (x : LockState) (agreed : Agreed s) (inside : t < length s.threads) (at : AtLock s r l.0 x) where
  lock_here : (table r).lock l.0 ≡ lock_state x
  lock_here = ap lock_state at.locks.at

  finish : IsAt (table s) (table r) (length s.threads) c t l.0 → Agreed r
  finish is = subst (λ n. H.IsAgreed n (table r)) (sym at.many) (agreed_at (table s) (table r) (length s.threads) c t l.0 is agreed)

  -- t takes the lock, of which nobody passed anything on
  pub agreed_taken : Goes held_part s r t ((thread_of s t).body.held.items ++ l ∷ []) → C.Kept pass_part s r → (table s).passes c ≡ None
      → ((d k : ℕ) → lock_state (lock_of s l.0) ≡ H.Lock.Passing d k → ⊥)
      → (table s).holds t l.0 ≡ false → H.holders_of (lock_state x) ≡ suc (H.holders_of (lock_state (lock_of s l.0)))
      → ((u : ℕ) → lock_state x ≡ H.Lock.Owned u → u ≡ t) → (lock_state x ≡ H.Lock.Free → ⊥) → ((d k : ℕ) → lock_state x ≡ H.Lock.Passing d k → ⊥) → Agreed r
  agreed_taken held passes free unpassed was count own not_free not_passing = finish (record {
    t_in = inside;
    locks = λ m other. ap lock_state (at.locks.others m other);
    holds = λ u m apart. elim (cases_eq u t) [
      | inl me ↦ ap (λ v. (table r).holds v m) me ∙ ap (λ (ys : List LockId). is_held (record { 0 = m }) ys) held.put.at ∙ with_held_other l m (thread_of s t).body.held.items (apart me) ∙ ap (λ v. (table s).holds v m) (sym me)
      | inr him ↦ ap (λ (ys : List LockId). is_held (record { 0 = m }) ys) (held.put.others u him)
    ];
    held = comes was now (ap H.holders_of lock_here ∙ count);
    waits = at.waits;
    owner = λ u is. let me = own u (sym lock_here ∙ is) in subst (λ v. (v < length s.threads) × ((table r).holds v l.0 ≡ true)) (sym me) (inside, now);
    free = λ u is waits. not_free (sym lock_here ∙ is);
    passes = λ d other. passes.each d;
    passed = λ p is. absurd (none_some ((table s).passes c) p free is);
    now = λ p is. absurd (none_some ((table s).passes c) p free (sym (passes.each c) ∙ is));
    by = λ d k is. absurd (not_passing d k (sym lock_here ∙ is));
    still = λ d p other is on. let old = agreed.passed d p is in absurd (unpassed d old.0 (ap (table s).lock (sym on) ∙ old.1));
  })
    where
      now : (table r).holds t l.0 ≡ true
      now = ap (λ (ys : List LockId). is_held l ys) held.put.at ∙ held_last l (thread_of s t).body.held.items

  -- t gives the lock up, and it is free or passed on by c
  pub agreed_given : Goes held_part s r t (without_lock l (thread_of s t).body.held.items) → ((d : ℕ) → d ≢ c → (table r).passes d ≡ (table s).passes d) → (table s).passes c ≡ None
      → ((d k : ℕ) → lock_state (lock_of s l.0) ≡ H.Lock.Passing d k → ⊥)
      → (table s).holds t l.0 ≡ true → suc (H.holders_of (lock_state x)) ≡ H.holders_of (lock_state (lock_of s l.0))
      → ((u : ℕ) → lock_state x ≡ H.Lock.Owned u → ⊥) → (lock_state x ≡ H.Lock.Free → (u : ℕ) → (table r).waits u ≡ Some l.0 → ⊥)
      → ((p : H.Pass) → (table r).passes c ≡ Some p → (p.lock ≡ l.0) × ((k : ℕ) × (lock_state x ≡ H.Lock.Passing c k) × (p.alone ≡ true → k ≡ 0)))
      → ((d k : ℕ) → lock_state x ≡ H.Lock.Passing d k → (p : H.Pass) × ((table r).passes d ≡ Some p) × (p.lock ≡ l.0)) → Agreed r
  agreed_given held others free unpassed was count own freed now_passes by = finish (record {
    t_in = inside;
    locks = λ m other. ap lock_state (at.locks.others m other);
    holds = λ u m apart. elim (cases_eq u t) [
      | inl me ↦ ap (λ v. (table r).holds v m) me ∙ ap (λ (ys : List LockId). is_held (record { 0 = m }) ys) held.put.at ∙ without_other l m (thread_of s t).body.held.items (apart me) ∙ ap (λ v. (table s).holds v m) (sym me)
      | inr him ↦ ap (λ (ys : List LockId). is_held (record { 0 = m }) ys) (held.put.others u him)
    ];
    held = goes was (ap (λ (ys : List LockId). is_held l ys) held.put.at ∙ without_held l (thread_of s t).body.held.items) (ap suc (ap H.holders_of lock_here) ∙ count);
    waits = at.waits;
    owner = λ u is. absurd (own u (sym lock_here ∙ is));
    free = λ u is waits. freed (sym lock_here ∙ is) u waits;
    passes = others;
    passed = λ p is. absurd (none_some ((table s).passes c) p free is);
    now = λ p is. let q = now_passes p is in (q.0, (q.1.0, lock_here ∙ q.1.1, q.1.2));
    by = λ d k is. by d k (sym lock_here ∙ is);
    still = λ d p other is on. let old = agreed.passed d p is in absurd (unpassed d old.0 (ap (table s).lock (sym on) ∙ old.1));
  })

  -- t gives up its hold of a lock that another processor passes on to readers
  pub agreed_left : (d k : ℕ) → lock_of s l.0 ≡ Passing (record { 0 = d }) k → x ≡ Passing (record { 0 = d }) (k - 1)
      → Goes held_part s r t (without_lock l (thread_of s t).body.held.items) → C.Kept pass_part s r → (table s).passes c ≡ None → (table s).holds t l.0 ≡ true → Agreed r
  agreed_left d k is new held passes free was =
      let lock_was : (table s).lock l.0 ≡ H.Lock.Passing d k = ap lock_state is in
      let one = count_one (λ v. (table s).holds v l.0) t (length s.threads) inside was in
      let many_are : H.holders_of ((table s).lock l.0) ≡ k = ap H.holders_of lock_was in
      let here : (table r).lock l.0 ≡ H.Lock.Passing d (k - 1) = lock_here ∙ ap lock_state new in
      let total = agreed.holders l.0 in
      finish (record {
        t_in = inside;
        locks = λ m other. ap lock_state (at.locks.others m other);
        holds = λ u m apart. elim (cases_eq u t) [
          | inl me ↦ ap (λ v. (table r).holds v m) me ∙ ap (λ (ys : List LockId). is_held (record { 0 = m }) ys) held.put.at ∙ without_other l m (thread_of s t).body.held.items (apart me) ∙ ap (λ v. (table s).holds v m) (sym me)
          | inr him ↦ ap (λ (ys : List LockId). is_held (record { 0 = m }) ys) (held.put.others u him)
        ];
        held = goes was (ap (λ (ys : List LockId). is_held l ys) held.put.at ∙ without_held l (thread_of s t).body.held.items)
            (ap (λ (y : H.Lock). suc (H.holders_of y)) here ∙ (let e : suc (k - 1) ≡ k = omega arith in e) ∙ sym many_are);
        waits = at.waits;
        owner = λ u e. let bad : H.Lock.Passing d (k - 1) ≡ H.Lock.Owned u = sym here ∙ e in cc;
        free = λ u e waits. let bad : H.Lock.Passing d (k - 1) ≡ H.Lock.Free = sym here ∙ e in cc;
        passes = λ e other. passes.each e;
        passed = λ p e. absurd (none_some ((table s).passes c) p free e);
        now = λ p e. absurd (none_some ((table s).passes c) p free (sym (passes.each c) ∙ e));
        by = λ e j same.
            let both : H.Lock.Passing d (k - 1) ≡ H.Lock.Passing e j = sym here ∙ same in
            let who : d ≡ e = cc in
            let old = agreed.passing l.0 d k lock_was in
            subst (λ v. (p : H.Pass) × ((table r).passes v ≡ Some p) × (p.lock ≡ l.0)) who (old.0, passes.each d ∙ old.1, old.2);
        still = λ e p other same on.
            let old = agreed.passed e p same in
            let both : H.Lock.Passing d k ≡ H.Lock.Passing e old.0 = sym lock_was ∙ ap (table s).lock (sym on) ∙ old.1 in
            let who : d ≡ e = cc in
            let same_count : k ≡ old.0 = cc in
            (k - 1, here ∙ ap (λ v. H.Lock.Passing v (k - 1)) who, λ alone. let none = old.2 alone in omega arith);
      })

  -- The lock is passed on by c.

  module _ (p : H.Pass) (k : ℕ) (passing : (table s).passes c ≡ Some p) (its : p.lock ≡ l.0) (was_passing : lock_state (lock_of s l.0) ≡ H.Lock.Passing c k) where
    one_pass : (q : H.Pass) → (table s).passes c ≡ Some q → q.lock ≡ l.0
    one_pass q is = ap (λ (y : H.Pass). y.lock) (sym (same_Some p q (sym passing ∙ is))) ∙ its

    -- nobody else passes it on
    no_other : (d : ℕ) (q : H.Pass) → d ≢ c → (table s).passes d ≡ Some q → q.lock ≡ l.0 → ⊥
    no_other d q other is on =
        let old = agreed.passed d q is in
        let both : H.Lock.Passing c k ≡ H.Lock.Passing d old.0 = sym was_passing ∙ ap (table s).lock (sym on) ∙ old.1 in
        let who : c ≡ d = cc in
        other (sym who)

    same_holds : Same held_part s r → (u m : ℕ) → (table r).holds u m ≡ (table s).holds u m
    same_holds held u m = ap (λ (ys : List LockId). is_held (record { 0 = m }) ys) (held.each u)

    -- c passes it on no more, and nobody came or left
    pub agreed_settled : Same held_part s r → ((d : ℕ) → d ≢ c → (table r).passes d ≡ (table s).passes d) → (table r).passes c ≡ None
        → H.holders_of (lock_state x) ≡ k → ((u : ℕ) → lock_state x ≡ H.Lock.Owned u → ⊥) → ((d j : ℕ) → lock_state x ≡ H.Lock.Passing d j → ⊥)
        → (lock_state x ≡ H.Lock.Free → (u : ℕ) → (table r).waits u ≡ Some l.0 → ⊥) → Agreed r
    agreed_settled held others none count own unpassed freed = finish (record {
      t_in = inside;
      locks = λ m other. ap lock_state (at.locks.others m other);
      holds = λ u m apart. same_holds held u m;
      held = stays (same_holds held t l.0) (ap H.holders_of lock_here ∙ count ∙ sym (ap H.holders_of was_passing));
      waits = at.waits;
      owner = λ u is. absurd (own u (sym lock_here ∙ is));
      free = λ u is waits. freed (sym lock_here ∙ is) u waits;
      passes = others;
      passed = one_pass;
      now = λ q is. absurd (none_some ((table r).passes c) q none is);
      by = λ d j is. absurd (unpassed d j (sym lock_here ∙ is));
      still = λ d q other is on. absurd (no_other d q other is on);
    })

    -- t is given the lock as its owner
    pub agreed_owned : k ≡ 0 → Goes held_part s r t ((thread_of s t).body.held.items ++ l ∷ []) → ((d : ℕ) → d ≢ c → (table r).passes d ≡ (table s).passes d) → (table r).passes c ≡ None
        → (table s).holds t l.0 ≡ false → lock_state x ≡ H.Lock.Owned t → Agreed r
    agreed_owned zero_readers held others none was own = finish (record {
      t_in = inside;
      locks = λ m other. ap lock_state (at.locks.others m other);
      holds = λ u m apart. elim (cases_eq u t) [
        | inl me ↦ ap (λ v. (table r).holds v m) me ∙ ap (λ (ys : List LockId). is_held (record { 0 = m }) ys) held.put.at ∙ with_held_other l m (thread_of s t).body.held.items (apart me) ∙ ap (λ v. (table s).holds v m) (sym me)
        | inr him ↦ ap (λ (ys : List LockId). is_held (record { 0 = m }) ys) (held.put.others u him)
      ];
      held = comes was now (ap H.holders_of (lock_here ∙ own) ∙ ap suc (sym zero_readers) ∙ ap suc (sym (ap H.holders_of was_passing)));
      waits = at.waits;
      owner = λ u is.
          let both : H.Lock.Owned t ≡ H.Lock.Owned u = sym own ∙ sym lock_here ∙ is in
          let who : t ≡ u = cc in
          subst (λ v. (v < length s.threads) × ((table r).holds v l.0 ≡ true)) who (inside, now);
      free = λ u is waits. let bad : H.Lock.Owned t ≡ H.Lock.Free = sym own ∙ sym lock_here ∙ is in cc;
      passes = others;
      passed = one_pass;
      now = λ q is. absurd (none_some ((table r).passes c) q none is);
      by = λ d j is. let bad : H.Lock.Owned t ≡ H.Lock.Passing d j = sym own ∙ sym lock_here ∙ is in cc;
      still = λ d q other is on. absurd (no_other d q other is on);
    })
      where
        now : (table r).holds t l.0 ≡ true
        now = ap (λ (ys : List LockId). is_held l ys) held.put.at ∙ held_last l (thread_of s t).body.held.items

    -- t is given the lock as one more of its readers
    pub agreed_joined : p.alone ≡ false → Goes held_part s r t ((thread_of s t).body.held.items ++ l ∷ []) → C.Kept pass_part s r → (table s).holds t l.0 ≡ false → lock_state x ≡ H.Lock.Passing c (k + 1) → Agreed r
    agreed_joined many_readers held passes was more = finish (record {
      t_in = inside;
      locks = λ m other. ap lock_state (at.locks.others m other);
      holds = λ u m apart. elim (cases_eq u t) [
        | inl me ↦ ap (λ v. (table r).holds v m) me ∙ ap (λ (ys : List LockId). is_held (record { 0 = m }) ys) held.put.at ∙ with_held_other l m (thread_of s t).body.held.items (apart me) ∙ ap (λ v. (table s).holds v m) (sym me)
        | inr him ↦ ap (λ (ys : List LockId). is_held (record { 0 = m }) ys) (held.put.others u him)
      ];
      held = comes was now (ap H.holders_of (lock_here ∙ more) ∙ (let e : k + 1 ≡ suc k = omega arith in e) ∙ ap suc (sym (ap H.holders_of was_passing)));
      waits = at.waits;
      owner = λ u is. let bad : H.Lock.Passing c (k + 1) ≡ H.Lock.Owned u = sym more ∙ sym lock_here ∙ is in cc;
      free = λ u is waits. let bad : H.Lock.Passing c (k + 1) ≡ H.Lock.Free = sym more ∙ sym lock_here ∙ is in cc;
      passes = λ d other. passes.each d;
      passed = one_pass;
      now = λ q is.
          let one : p ≡ q = same_Some p q (sym passing ∙ sym (passes.each c) ∙ is) in
          (ap (λ (y : H.Pass). y.lock) (sym one) ∙ its, (k + 1, lock_here ∙ more, λ e. absurd (false≢true (sym many_readers ∙ ap (λ (y : H.Pass). y.alone) one ∙ e))));
      by = λ d j is.
          let both : H.Lock.Passing c (k + 1) ≡ H.Lock.Passing d j = sym more ∙ sym lock_here ∙ is in
          let who : c ≡ d = cc in
          subst (λ v. (z : H.Pass) × ((table r).passes v ≡ Some z) × (z.lock ≡ l.0)) who (p, passes.each c ∙ passing, its);
      still = λ d q other is on. absurd (no_other d q other is on);
    })
      where
        now : (table r).holds t l.0 ≡ true
        now = ap (λ (ys : List LockId). is_held l ys) held.put.at ∙ held_last l (thread_of s t).body.held.items

-- A thread comes to wait for a lock that is not free.
pub agreed_waits : (s r : State) (l : ℕ) → length r.threads ≡ length s.threads → r.locks ≡ s.locks → Same held_part s r → C.Kept pass_part s r
    → ((u m : ℕ) → m ≢ l → (table r).waits u ≡ Some m → (table s).waits u ≡ Some m) → ((table s).lock l ≡ H.Lock.Free → ⊥) → Agreed s → Agreed r
agreed_waits s r l many locks held passes waits busy agreed = subst (λ n. H.IsAgreed n (table r)) (sym many) (record {
  holders = λ m. count_same (λ u. (table s).holds u m) (λ u. (table r).holds u m) (length s.threads) (λ u lt. holds u m) ∙ agreed.holders m ∙ ap H.holders_of (sym (lock m));
  owner = λ m t is. let old = agreed.owner m t (sym (lock m) ∙ is) in (old.0, holds t m ∙ old.1);
  free = λ m t is at. elim (cases_eq m l) [
    | inl same ↦ busy (ap (table s).lock (sym same) ∙ sym (lock m) ∙ is)
    | inr other ↦ agreed.free m t (sym (lock m) ∙ is) (waits t m other at)
  ];
  passing = λ m c k is. let old = agreed.passing m c k (sym (lock m) ∙ is) in (old.0, passes.each c ∙ old.1, old.2);
  passed = λ c p is. let old = agreed.passed c p (sym (passes.each c) ∙ is) in (old.0, lock p.lock ∙ old.1, old.2);
  inside = λ t m is. agreed.inside t m (sym (holds t m) ∙ is);
})
  where
    lock : (m : ℕ) → (table r).lock m ≡ (table s).lock m
    lock m = ap (λ (xs : List LockState). lock_state (get_or xs m Free)) locks

    holds : (u m : ℕ) → (table r).holds u m ≡ (table s).holds u m
    holds u m = ap (λ (xs : List LockId). is_held (record { 0 = m }) xs) (held.each u)

-- A step at a lock that c passes on, by which no thread comes or leaves.
module _ (s r : State) (l : LockId) (c : ℕ) (x : LockState) (agreed : Agreed s) (at : AtLock s r l.0 x) (p : H.Pass) (k : ℕ) (passing : (table s).passes c ≡ Some p) (its : p.lock ≡ l.0)
    (was : lock_state (lock_of s l.0) ≡ H.Lock.Passing c k) (held : Same held_part s r) (others : (d : ℕ) → d ≢ c → (table r).passes d ≡ (table s).passes d) where
  agreed_any : H.holders_of (lock_state x) ≡ k → ((u : ℕ) → lock_state x ≡ H.Lock.Owned u → ⊥) → (lock_state x ≡ H.Lock.Free → (u : ℕ) → (table r).waits u ≡ Some l.0 → ⊥)
      → ((q : H.Pass) → (table r).passes c ≡ Some q → (q.lock ≡ l.0) × ((j : ℕ) × (lock_state x ≡ H.Lock.Passing c j) × (q.alone ≡ true → j ≡ 0)))
      → ((d j : ℕ) → lock_state x ≡ H.Lock.Passing d j → (q : H.Pass) × ((table r).passes d ≡ Some q) × (q.lock ≡ l.0)) → Agreed r
  agreed_any count own freed now by = subst (λ n. H.IsAgreed n (table r)) (sym at.many) (record {
    holders = λ m. same_count m ∙ agreed.holders m ∙ elim (cases_eq m l.0) [
      | inl is ↦ ap (λ v. H.holders_of ((table s).lock v)) is ∙ ap H.holders_of was ∙ sym count ∙ sym (ap H.holders_of here) ∙ sym (ap (λ v. H.holders_of ((table r).lock v)) is)
      | inr other ↦ ap H.holders_of (sym (there m other))
    ];
    owner = λ m t is. elim (cases_eq m l.0) [
      | inl same ↦ absurd (own t (sym here ∙ ap (table r).lock (sym same) ∙ is))
      | inr other ↦ let old = agreed.owner m t (sym (there m other) ∙ is) in (old.0, holds t m ∙ old.1)
    ];
    free = λ m t is on. elim (cases_eq m l.0) [
      | inl same ↦ freed (sym here ∙ ap (table r).lock (sym same) ∙ is) t (on ∙ ap Some same)
      | inr other ↦ agreed.free m t (sym (there m other) ∙ is) (at.waits t m other on)
    ];
    passing = λ m d j is. elim (cases_eq m l.0) [
      | inl same ↦ subst (λ v. (q : H.Pass) × ((table r).passes d ≡ Some q) × (q.lock ≡ v)) (sym same) (by d j (sym here ∙ ap (table r).lock (sym same) ∙ is))
      | inr other ↦
          let old = agreed.passing m d j (sym (there m other) ∙ is) in
          (old.0, others d (λ mine. other (sym old.2 ∙ ap (λ (y : H.Pass). y.lock) (sym (same_Some p old.0 (sym passing ∙ ap (table s).passes (sym mine) ∙ old.1))) ∙ its)) ∙ old.1, old.2)
    ];
    passed = λ d q is. elim (cases_eq d c) [
      | inl mine ↦
          let new = now q (ap (table r).passes (sym mine) ∙ is) in
          (new.1.0, ap (table r).lock new.0 ∙ here ∙ new.1.1 ∙ ap (λ v. H.Lock.Passing v new.1.0) (sym mine), new.1.2)
      | inr other ↦
          let old = agreed.passed d q (sym (others d other) ∙ is) in
          elim (cases_eq q.lock l.0) [
            | inl same ↦
                let both : H.Lock.Passing c k ≡ H.Lock.Passing d old.0 = sym was ∙ ap (table s).lock (sym same) ∙ old.1 in
                let who : c ≡ d = cc in
                absurd (other (sym who))
            | inr apart ↦ (old.0, there q.lock apart ∙ old.1, old.2)
          ]
    ];
    inside = λ t m is. agreed.inside t m (sym (holds t m) ∙ is);
  })
    where
      here : (table r).lock l.0 ≡ lock_state x
      here = ap lock_state at.locks.at

      there : (m : ℕ) → m ≢ l.0 → (table r).lock m ≡ (table s).lock m
      there m other = ap lock_state (at.locks.others m other)

      holds : (u m : ℕ) → (table r).holds u m ≡ (table s).holds u m
      holds u m = ap (λ (ys : List LockId). is_held (record { 0 = m }) ys) (held.each u)

      same_count : (m : ℕ) → H.counted (λ u. (table r).holds u m) (length s.threads) ≡ H.counted (λ u. (table s).holds u m) (length s.threads)
      same_count m = count_same (λ u. (table s).holds u m) (λ u. (table r).holds u m) (length s.threads) (λ u lt. holds u m)

  -- c passes it on no more
  pub agreed_settled_any : (table r).passes c ≡ None → H.holders_of (lock_state x) ≡ k → ((u : ℕ) → lock_state x ≡ H.Lock.Owned u → ⊥) → ((d j : ℕ) → lock_state x ≡ H.Lock.Passing d j → ⊥)
      → (lock_state x ≡ H.Lock.Free → (u : ℕ) → (table r).waits u ≡ Some l.0 → ⊥) → Agreed r
  agreed_settled_any none count own unpassed freed = agreed_any count own freed (λ q is. absurd (none_some ((table r).passes c) q none is)) (λ d j is. absurd (unpassed d j is))

  -- c goes on to pass it on
  pub agreed_passed_on_any : (q : H.Pass) → (table r).passes c ≡ Some q → q.lock ≡ l.0 → (q.alone ≡ true → k ≡ 0) → lock_state x ≡ H.Lock.Passing c k → Agreed r
  agreed_passed_on_any q now on alone same = agreed_any (ap H.holders_of same)
      (λ u bad. let b : H.Lock.Passing c k ≡ H.Lock.Owned u = sym same ∙ bad in cc)
      (λ bad u waits. let b : H.Lock.Passing c k ≡ H.Lock.Free = sym same ∙ bad in cc)
      (λ z is. let one : q ≡ z = same_Some q z (sym now ∙ is) in (ap (λ (y : H.Pass). y.lock) (sym one) ∙ on, (k, same, λ e. alone (ap (λ (y : H.Pass). y.alone) one ∙ e))))
      (λ d j is. let both : H.Lock.Passing c k ≡ H.Lock.Passing d j = sym same ∙ is in let who : c ≡ d = cc in subst (λ v. (z : H.Pass) × ((table r).passes v ≡ Some z) × (z.lock ≡ l.0)) who (q, now, on))

-- the same list of locks is a write of what was there
pub same_put_lock : (s r : State) (l : ℕ) → r.locks ≡ s.locks → IsPut l (lock_of s l) (λ m. lock_of s m) (λ m. lock_of r m)
same_put_lock s r l same = record { at = ap (λ (xs : List LockState). get_or xs l Free) same; others = λ m other. ap (λ (xs : List LockState). get_or xs m Free) same }
