-- The effective priority of an owner that no walk and no cycle excuses is the maximum over itself and the threads behind it.
use Rattle.std.proofs.Common.{◌≡◌, ◌≢◌, ℕ, zero, suc, ◌<◌, ◌≤◌, Bool, true, false, cond, eqb, Option, Some, None, refl, sym, ap, ◌∙◌, subst, ◌⊎◌, inl, inr, arith}
use Rattle.std.proofs.lemmas.Bool.{cases_Bool, eqb-true, eq-eqb, false≢true}
use Rattle.sd_machine.specs.Graphs.{Wait, Graph, IsAhead, IsBehind, InCycle, IsGreatest, IsExact, IsLocal, IsEff, IsOver, IsChainMax, IsCalm}
use Rattle.sd_machine.specs.Graphs.IsBehind.{near, far}
use Rattle.sd_machine.proofs.Chains.{cycle_behind}

-- How many of the numbers below k are not seen.

abbrev pub unseen : (ℕ → Bool) → ℕ → ℕ
unseen f zero = 0
unseen f (suc k) = cond (f k) (unseen f k) (suc (unseen f k))

abbrev pub see : (ℕ → Bool) → ℕ → ℕ → Bool
see f t u = cond (eqb u t) true (f u)

see_past : (f : ℕ → Bool) (t k : ℕ) → k ≤ t → unseen (see f t) k ≡ unseen f k
see_past f t zero le = refl
see_past f t (suc k) le = elim (cases_Bool (eqb k t)) [
  | inl is ↦ let e = eqb-true k t is in absurd (omega arith)
  | inr other ↦ rw other (rw (see_past f t k (omega arith)) refl)
]

see_less : (f : ℕ → Bool) (t k : ℕ) → t < k → f t ≡ false → suc (unseen (see f t) k) ≡ unseen f k
see_less f t zero lt new = absurd (omega arith)
see_less f t (suc k) lt new = elim (cases_Bool (eqb k t)) [
  | inl is ↦
      let e : k ≡ t = eqb-true k t is in
      let no : f k ≡ false = ap f e ∙ new in
      rw is (rw no (ap suc (see_past f t k (omega arith))))
  | inr other ↦
      let apart : k ≢ t = λ e. false≢true (sym other ∙ eq-eqb k t e) in
      rw other (step (f k) (see_less f t k (omega arith) new))
]
  where
    step : (b : Bool) → suc (unseen (see f t) k) ≡ unseen f k → suc (cond b (unseen (see f t) k) (suc (unseen (see f t) k))) ≡ cond b (unseen f k) (suc (unseen f k))
    step true e = e
    step false e = ap suc e

module _ (g : Graph) (local : IsLocal g) (eff : IsEff g) (o : ℕ) (open_chain : InCycle g o → ⊥) (calm : IsCalm g o) where
  -- what an owner over the chain keeps is exact
  exact_over : (u l : ℕ) → IsOver g o u → g.owner l ≡ Some u → IsExact g l (g.willed u l)
  exact_over u l over own = local.exact l u own (λ cycle. elim over [
    | inl is ↦ open_chain (subst (InCycle g) is cycle)
    | inr behind ↦ open_chain (cycle_behind g o u behind cycle)
  ]) (calm u l over own)

  -- a waiter's priority is at most its owner's
  below : (t u : ℕ) → IsOver g o u → IsAhead g t u → g.eff t ≤ g.eff u
  below t u over (w, is, own) = by (g.willed u w.lock) refl (exact_over u w.lock over own)
    where
      by : (k : Option ℕ) → g.willed u w.lock ≡ k → IsExact g w.lock k → g.eff t ≤ g.eff u
      by None e none = absurd (none t (w, is, refl))
      by (Some k) e great = let a = great.most t (w, is, refl) in let b = eff.willed u w.lock k e in omega arith

  most : (t : ℕ) → IsBehind g o t → g.eff t ≤ g.eff o
  most t (near a) = below t o (inl refl) a
  most t (far {u = u} a r) = let b = below t u (inr r) a in let c = most u r in omega arith

  -- a thread over the chain has its base priority, or a waiter with the same effective priority
  source : (u : ℕ) → IsOver g o u → (g.eff u ≡ g.base u) ⊎ ((t : ℕ) × IsAhead g t u × (g.eff t ≡ g.eff u))
  source u over = elim (eff.got u) [
    | inl is ↦ inl is
    | inr (l, will) ↦
        let own = local.owned u l (g.eff u) will in
        let great : IsGreatest g l (g.eff u) = subst (IsExact g l) will (exact_over u l over own) in
        inr (great.got.0, (great.got.1.0, great.got.1.1, ap g.owner great.got.1.2 ∙ own), great.got.2)
  ]

  over_behind : (t u : ℕ) → IsOver g o u → IsAhead g t u → IsBehind g o t
  over_behind t u (inl is) a = near (subst (IsAhead g t) is a)
  over_behind t u (inr behind) a = far a behind

  module _ (count : ℕ) (inside : (t : ℕ) (w : Wait) → g.waits t ≡ Some w → t < count) where
    -- the threads seen so far are u and some that u is behind
    IsTrail : (ℕ → Bool) → ℕ → Type 0
    IsTrail f u = (v : ℕ) → f v ≡ true → (v ≡ u) ⊎ IsBehind g v u

    Found : Type 0
    Found = (t : ℕ) × IsOver g o t × (g.base t ≡ g.eff o)

    -- t comes next
    record IsNew (f : ℕ → Bool) (t : ℕ) : Type 0 where
      over : IsOver g o t
      trail : IsTrail (see f t) t
      same : g.eff t ≡ g.eff o
      fewer : suc (unseen (see f t) count) ≡ unseen f count

    advance : (f : ℕ → Bool) (u : ℕ) → IsOver g o u → IsTrail f u → g.eff u ≡ g.eff o → Found ⊎ ((t : ℕ) × IsNew f t)
    unfolding IsTrail Found
    advance f u over trail same = elim (source u over) [
      | inl is ↦ inl (u, over, sym is ∙ same)
      | inr (t, a, e) ↦ elim (cases_Bool (f t)) [
        | inl seen ↦ absurd (open_chain (cycle_behind g o t (over_behind t u over a) (elim (trail t seen) [
          | inl is ↦ near (subst (IsAhead g t) (sym is) a)
          | inr behind ↦ far a behind
        ])))
        | inr new ↦ inr (
          t,
          record {
            over = inr (over_behind t u over a);
            trail = λ v is. longer t a v is;
            same = e ∙ same;
            fewer = see_less f t count (inside t a.0 a.1) new;
          },
        )
      ]
    ]
      where
        longer : (t : ℕ) → IsAhead g t u → (v : ℕ) → see f t v ≡ true → (v ≡ t) ⊎ IsBehind g v t
        longer t a v is = elim (cases_Bool (eqb v t)) [
          | inl me ↦ inl (eqb-true v t me)
          | inr other ↦ elim (trail v (ap (λ b. cond b true (f v)) (sym other) ∙ is)) [
            | inl at ↦ inr (near (subst (IsAhead g t) (sym at) a))
            | inr behind ↦ inr (far a behind)
          ]
        ]

    descend : (k : ℕ) (f : ℕ → Bool) (u : ℕ) → unseen f count ≡ k → IsOver g o u → IsTrail f u → g.eff u ≡ g.eff o → Found
    descend zero f u left over trail same = elim (advance f u over trail same) [
      | inl found ↦ found
      | inr (t, new) ↦ let e = new.fewer in absurd (omega arith)
    ]
    descend (suc k) f u left over trail same = elim (advance f u over trail same) [
      | inl found ↦ found
      | inr (t, new) ↦ descend k (see f t) t (let e = new.fewer in omega arith) new.over new.trail new.same
    ]

    pub is_chain_max : IsChainMax g o (g.eff o)
    unfolding Found IsTrail
    is_chain_max = record {
      most = λ t over. elim over [
        | inl is ↦ subst (λ v. g.base v ≤ g.eff o) (sym is) (eff.base o)
        | inr behind ↦ let a = eff.base t in let b = most t behind in omega arith
      ];
      got = descend (unseen (λ u. eqb u o) count) (λ u. eqb u o) o refl (inl refl) (λ v is. inl (eqb-true v o is)) refl;
    }
