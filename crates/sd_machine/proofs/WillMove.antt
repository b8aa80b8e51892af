-- Will: the walk of a processor gives the owner of its lock the exact number, and goes on or ends.
use Rattle.std.proofs.Common.{◌≡◌, ◌≢◌, ℕ, true, Option, Some, None, ℤ, refl, sym, ap, ◌∙◌, subst, ◌⊎◌, inl, inr, arith}
use Rattle.std.proofs.lemmas.Bool.{cases_eq}
use Rattle.std.proofs.lemmas.Int.{ints}
use Rattle.std.specs.Prelude.{◌<ℤ◌, ◌≤ℤ◌}
use Rattle.sd_machine.specs.Graphs.{Wait, Walk, Graph, InCycle, IsExact, Reaches, Follows, IsSoundGraph}
use Rattle.sd_machine.specs.Graphs.IsBehind.{near}
use Rattle.sd_machine.specs.Graphs.Reaches.{here}
use Rattle.sd_machine.proofs.Chains.{cycle_ahead, reaches_on, reaches_behind}
use Rattle.sd_machine.proofs.Steps.{IsFrame, IsFine, IsStep, cycle_stays, reaches_stays, key_stays, exact_stays}
use Rattle.sd_machine.proofs.Steps.IsFine.{fresh, walked, cyclic}
use Rattle.sd_machine.proofs.Moves.{IsSame, OthersWilled, none_some, same_lock}
use Rattle.std.proofs.lemmas.Option.{same_Some}

-- the next walk of v at an owner o, by what o waits on and whether it is looped
pub data IsNext (g : Graph) (v : Walk) (o : ℕ) (next : Option Walk) : Type 0 where
  ends_free : g.waits o ≡ None → next ≡ None → IsNext g v o next
  ends_looped : (w : Wait) → g.waits o ≡ Some w → g.looped o ≡ true → next ≡ None → IsNext g v o next
  ends_back : (w : Wait) → g.waits o ≡ Some w → v.seek ≡ o → v.key ≡ w.key → next ≡ None → IsNext g v o next
  goes_anew : (w : Wait) → g.waits o ≡ Some w → v.key <ℤ w.key → next ≡ Some (record { lock = w.lock; seek = o; key = w.key }) → IsNext g v o next
  goes_same : (w : Wait) → g.waits o ≡ Some w → w.key ≤ℤ v.key → next ≡ Some (record { lock = w.lock; seek = v.seek; key = v.key }) → IsNext g v o next

-- the walk is back at the thread that it seeks
abbrev pub IsClosed : Graph → Walk → ℕ → Type 0
IsClosed g v o = (w : Wait) × (g.waits o ≡ Some w) × (v.seek ≡ o) × (v.key ≡ w.key)

-- a walk that is back has found a cycle
pub closed_cycle : (n : ℤ) (g : Graph) (c : ℕ) (v : Walk) (o : ℕ) → IsSoundGraph n g → g.walks c ≡ Some v → g.owner v.lock ≡ Some o → IsClosed g v o → InCycle g o
closed_cycle n g c v o sound is own (w, waits, seek, key) =
    let reach = (sound.follows c v is o w own waits (let e : v.key ≡ w.key = key in omega (arith, ints))).1 in
    reaches_behind g v.key v.lock o o (subst (Reaches g v.key v.lock) seek reach) own

module _ (g h : Graph) where
  pub record IsWill (c : ℕ) (v : Walk) (o : ℕ) : Type 0 where
    pub was : g.walks c ≡ Some v
    pub own : g.owner v.lock ≡ Some o
    pub next : IsNext g v o (h.walks c)
    pub walks : (d : ℕ) → d ≢ c → h.walks d ≡ g.walks d
    pub exact : IsExact g v.lock (h.willed o v.lock)
    pub willed : OthersWilled g h o v.lock
    pub looped : (t : ℕ) → h.looped t ≡ true → (g.looped t ≡ true) ⊎ ((t ≡ o) × IsClosed g v o)
    pub waits : IsSame g.waits h.waits
    pub owner : IsSame g.owner h.owner
    pub eff : (u : ℕ) (x : Wait) → u ≢ o → h.waits u ≡ Some x → h.eff u ≡ g.eff u

  module _ (n m : ℤ) (more : n <ℤ m) (sound : IsSoundGraph n g) (c : ℕ) (v : Walk) (o : ℕ) (a : IsWill c v o) where
    frame : IsFrame g h
    frame = record { stays = λ t u w is own. a.waits t ∙ is; owns = λ l u w own is. a.owner l ∙ own }

    stays_cyclic : (u : ℕ) → InCycle g u → InCycle h u
    stays_cyclic = cycle_stays g h frame

    -- at the lock of the walk
    fine_here : IsFine g h v.lock o
    fine_here = by (g.waits o) refl
      where
        away : ((w : Wait) → g.waits o ≡ Some w → w.lock ≢ v.lock) → IsFine g h v.lock o
        away other = fresh (exact_stays g h v.lock
            (λ t on. (on.0, a.waits t ∙ on.1, on.2))
            (λ t on. (on.0, sym (a.waits t) ∙ on.1, on.2))
            (λ t on. a.eff t on.0 (λ e. other on.0 (ap g.waits (sym e) ∙ sym (a.waits t) ∙ on.1) on.2) on.1)
            (h.willed o v.lock) a.exact)

        by : (x : Option Wait) → g.waits o ≡ x → IsFine g h v.lock o
        by None is = away (λ w e. absurd (none_some (g.waits o) w is e))
        by (Some w) is = elim (cases_eq w.lock v.lock) [
          | inl at ↦ cyclic (stays_cyclic o (near (w, is, ap g.owner at ∙ a.own)))
          | inr other ↦ away (λ x e. λ f. other (ap (λ (y : Wait). y.lock) (same_Some w x (sym is ∙ e)) ∙ f))
        ]

    -- at another lock, of u
    module _ (l u : ℕ) (own : g.owner l ≡ Some u) (other : l ≢ v.lock) where
      -- that is not the one on which o waits
      fine_away : ((w : Wait) → g.waits o ≡ Some w → w.lock ≢ l) → IsFine g h l u
      fine_away away = same_lock g h l u own (a.willed u l (λ e f. other f)) (λ t. inl (a.waits t))
          (λ t on. a.eff t on.0 (λ e. away on.0 (ap g.waits (sym e) ∙ sym (a.waits t) ∙ on.1) on.2) on.1)
          (λ st. elim (cases_eq st.0 c) [
            | inl mine ↦ absurd (other (sym st.3 ∙ ap (λ (x : Walk). x.lock) (same_Some st.1 v (sym st.2 ∙ ap g.walks mine ∙ a.was))))
            | inr apart ↦ (st.0, st.1, a.walks st.0 apart ∙ st.2, st.3)
          ])

      -- that is the one: the thread ahead of o, which is in a cycle
      ahead_cyclic : (w : Wait) → g.waits o ≡ Some w → w.lock ≡ l → InCycle g o → IsFine g h l u
      ahead_cyclic w is at cycle = cyclic (stays_cyclic u (cycle_ahead g o u cycle (w, is, ap g.owner at ∙ own)))

      by_lock : (w : Wait) → g.waits o ≡ Some w → (w.lock ≡ l → IsFine g h l u) → IsFine g h l u
      by_lock w is there = elim (cases_eq w.lock l) [
        | inl at ↦ there at
        | inr apart ↦ fine_away (λ x e. λ f. apart (ap (λ (y : Wait). y.lock) (same_Some w x (sym is ∙ e)) ∙ f))
      ]

      fine_there : IsNext g v o (h.walks c) → IsFine g h l u
      fine_there (ends_free is ends) = fine_away (λ w e. absurd (none_some (g.waits o) w is e))
      fine_there (ends_looped w is looped ends) = by_lock w is (λ at. ahead_cyclic w is at (sound.looped o looped))
      fine_there (ends_back w is seek key ends) = by_lock w is (λ at. ahead_cyclic w is at (closed_cycle n g c v o sound a.was a.own (w, is, seek, key)))
      fine_there (goes_anew w is less goes_on) = by_lock w is (λ at. walked (c, _, goes_on, at))
      fine_there (goes_same w is less goes_on) = by_lock w is (λ at. walked (c, _, goes_on, at))

    fine : (l u : ℕ) → h.owner l ≡ Some u → IsFine g h l u
    fine l u own = elim (cases_eq l v.lock) [
      | inl at ↦ subst (λ k. IsFine g h k u) (sym at) (subst (IsFine g h v.lock) (same_Some o u (sym a.own ∙ ap g.owner (sym at) ∙ sym (a.owner l) ∙ own)) fine_here)
      | inr other ↦ fine_there l u (sym (a.owner l) ∙ own) other a.next
    ]

    -- the walk that goes on
    follows_next : (x : Walk) → h.walks c ≡ Some x → IsNext g v o (h.walks c) → Follows h x × (x.key <ℤ m)
    follows_next x is (ends_free e ends) = absurd (none_some (h.walks c) x ends is)
    follows_next x is (ends_looped w e looped ends) = absurd (none_some (h.walks c) x ends is)
    follows_next x is (ends_back w e seek key ends) = absurd (none_some (h.walks c) x ends is)
    follows_next x is (goes_anew w e less goes_on) = subst (λ (y : Walk). Follows h y × (y.key <ℤ m)) (same_Some _ x (sym goes_on ∙ is)) (
      (λ u y own waits low. ((w, a.waits o ∙ e, refl), here w (a.waits o ∙ e) (omega (arith, ints)) refl)),
      (let low = sound.wait_keys o w e in omega (arith, ints)),
    )
    follows_next x is (goes_same w e less goes_on) = subst (λ (y : Walk). Follows h y × (y.key <ℤ m)) (same_Some _ x (sym goes_on ∙ is)) (
      (λ u y own waits low.
          let both = sound.follows c v a.was o w a.own e less in
          let reach = reaches_on g v.key v.lock v.seek o w both.1 a.own e less in
          let was = sym (a.owner w.lock) ∙ own in
          (key_stays g h frame v.key w.lock v.seek u reach was both.0, reaches_stays g h frame v.key w.lock v.seek u reach was)),
      (let low = sound.walk_keys c v a.was in omega (arith, ints)),
    )

    pub will_step : IsStep g h n m
    will_step = record {
      frame = frame;
      more = more;
      owned = λ l u w own is. sym (a.owner l) ∙ own;
      came = λ t w is. inl (sym (a.waits t) ∙ is);
      willed = λ u l k is. elim (cases_eq u o) [
        | inl me ↦ elim (cases_eq l v.lock) [
          | inl at ↦ a.owner l ∙ ap g.owner at ∙ a.own ∙ ap Some (sym me)
          | inr other ↦ a.owner l ∙ sound.local.owned u l k (sym (a.willed u l (λ e f. other f)) ∙ is)
        ]
        | inr him ↦ a.owner l ∙ sound.local.owned u l k (sym (a.willed u l (λ e f. him e)) ∙ is)
      ];
      fine = fine;
      walks = λ d x is. elim (cases_eq d c) [
        | inl mine ↦ inr (follows_next x (ap h.walks (sym mine) ∙ is) a.next)
        | inr apart ↦ inl (sym (a.walks d apart) ∙ is)
      ];
      looped = λ t is. elim (a.looped t is) [
        | inl old ↦ inl old
        | inr new ↦ inr (stays_cyclic t (subst (InCycle g) (sym new.0) (closed_cycle n g c v o sound a.was a.own new.1)))
      ];
    }
