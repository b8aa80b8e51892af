-- The moves of a lock graph, each of which keeps what holds of every state.
use Rattle.std.proofs.Common.{◌≡◌, ◌≢◌, ℕ, Option, Some, None, ℤ, refl, sym, ap, ◌∙◌, subst, ◌⊎◌, inl, inr, arith}
use Rattle.std.proofs.lemmas.Bool.{cases_eq}
use Rattle.std.proofs.lemmas.Int.{ints}
use Rattle.std.specs.Prelude.{◌<ℤ◌}
use Rattle.sd_state.proofs.KeyLemmas.{IsPut}
use Rattle.sd_machine.specs.Graphs.{Wait, Walk, Graph, IsOn, Stands, IsExact, IsLocal, Follows, IsSoundGraph}
use Rattle.sd_machine.specs.Graphs.Reaches.{here}
use Rattle.sd_machine.proofs.Steps.{IsFine, IsStep}
use Rattle.sd_machine.proofs.Steps.IsFine.{same, fresh, walked}
use Rattle.std.proofs.lemmas.Option.{same_Some}

abbrev pub IsSame : {X : Type 0} → (ℕ → X) → (ℕ → X) → Type 0
IsSame f g = (u : ℕ) → g u ≡ f u

pub none_some : {X : Type 0} (o : Option X) (x : X) → o ≡ None → o ≡ Some x → ⊥
none_some o x e f = let bad : None ≡ Some x = sym e ∙ f in cc

pub put_cases : {X : Type 0} (t : ℕ) (x : X) (f g : ℕ → X) → IsPut t x f g → (u : ℕ) → ((u ≡ t) × (g u ≡ x)) ⊎ ((u ≢ t) × (g u ≡ f u))
put_cases t x f g put u = elim (cases_eq u t) [
  | inl is ↦ inl (is, ap g is ∙ put.at)
  | inr other ↦ inr (other, put.others u other)
]

module _ (g h : Graph) where
  -- The parts that a move leaves as they are.
  abbrev pub SameEff : Type 0
  SameEff = (t : ℕ) (w : Wait) → h.waits t ≡ Some w → h.eff t ≡ g.eff t

  abbrev pub SameWilled : Type 0
  SameWilled = (o l : ℕ) → h.willed o l ≡ g.willed o l

  -- but for the number of o for l
  abbrev pub OthersWilled : ℕ → ℕ → Type 0
  OthersWilled o l = (u m : ℕ) → (u ≡ o → m ≡ l → ⊥) → h.willed u m ≡ g.willed u m

  -- walks that stood stand
  abbrev pub WalksStay : Type 0
  WalksStay = (c : ℕ) (v : Walk) → g.walks c ≡ Some v → h.walks c ≡ Some v

  pub stands_on : WalksStay → (l : ℕ) → Stands g l → Stands h l
  stands_on stay l (c, v, is, at) = (c, v, stay c v is, at)

  -- walks that are as they were, but for one of a processor that had none
  pub put_walks_stay : (c : ℕ) (v : Option Walk) → g.walks c ≡ None → IsPut c v g.walks h.walks → WalksStay
  put_walks_stay c v idle put d x is = put.others d (λ e. none_some (g.walks c) x idle (ap g.walks (sym e) ∙ is)) ∙ is

  -- a lock whose waiters stay, each with its priority
  pub same_lock : (l o : ℕ) → g.owner l ≡ Some o → h.willed o l ≡ g.willed o l → ((t : ℕ) → (h.waits t ≡ g.waits t) ⊎ ((IsOn g l t → ⊥) × (IsOn h l t → ⊥))) → ((t : ℕ) → IsOn h l t → h.eff t ≡ g.eff t)
      → (Stands g l → Stands h l) → IsFine g h l o
  same_lock l o own willed waits eff stood = same (record {
    own = own;
    willed = willed;
    to = λ t on. elim (waits t) [ inl is ↦ (on.0, is ∙ on.1, on.2) | inr not ↦ absurd (not.0 on) ];
    from = λ t on. elim (waits t) [ inl is ↦ (on.0, sym is ∙ on.1, on.2) | inr not ↦ absurd (not.1 on) ];
    eff = eff;
    stood = stood;
  })

  -- Quiet: what the chains see stays.
  pub record IsQuiet : Type 0 where
    pub waits : IsSame g.waits h.waits
    pub owner : IsSame g.owner h.owner
    pub willed : SameWilled
    pub looped : IsSame g.looped h.looped
    pub walks : IsSame g.walks h.walks
    pub eff : SameEff

  -- Block: t comes to wait on l with key n, and a walk begins there.
  pub record IsBlock (n : ℤ) (c t l : ℕ) : Type 0 where
    pub rests : g.waits t ≡ None
    pub idle : g.walks c ≡ None
    pub waits : IsPut t (Some (record { lock = l; key = n })) g.waits h.waits
    pub walks : IsPut c (Some (record { lock = l; seek = t; key = n })) g.walks h.walks
    pub owner : IsSame g.owner h.owner
    pub willed : SameWilled
    pub looped : IsSame g.looped h.looped
    pub eff : SameEff

  -- Release: o gives l up.
  pub record IsRelease (o l : ℕ) : Type 0 where
    pub own : g.owner l ≡ Some o
    pub rests : g.waits o ≡ None
    pub owner : IsPut l None g.owner h.owner
    pub gone : h.willed o l ≡ None
    pub willed : OthersWilled o l
    pub waits : IsSame g.waits h.waits
    pub looped : IsSame g.looped h.looped
    pub walks : IsSame g.walks h.walks
    pub eff : SameEff

  -- Acquire: t, which does not wait or has waited on l and waits no more, gets the lock l, that nobody owned, with the exact number.
  pub record IsAcquire (t l : ℕ) : Type 0 where
    pub free : g.owner l ≡ None
    pub owner : IsPut l (Some t) g.owner h.owner
    pub waits : IsPut t None g.waits h.waits
    pub waited : (w : Wait) → g.waits t ≡ Some w → w.lock ≡ l
    pub exact : IsExact h l (h.willed t l)
    pub willed : OthersWilled t l
    pub looped : IsSame g.looped h.looped
    pub walks : IsSame g.walks h.walks
    pub eff : SameEff

  -- Leave: t, which waits on a lock that nobody owns, waits no more.
  pub record IsLeave (t : ℕ) : Type 0 where
    pub free : (w : Wait) → g.waits t ≡ Some w → g.owner w.lock ≡ None
    pub waits : IsPut t None g.waits h.waits
    pub owner : IsSame g.owner h.owner
    pub willed : SameWilled
    pub looped : IsSame g.looped h.looped
    pub walks : IsSame g.walks h.walks
    pub eff : SameEff

  -- End: a walk at a lock that nobody owns ends.
  pub record IsEnd (c : ℕ) (v : Walk) : Type 0 where
    pub was : g.walks c ≡ Some v
    pub free : g.owner v.lock ≡ None
    pub walks : IsPut c None g.walks h.walks
    pub waits : IsSame g.waits h.waits
    pub owner : IsSame g.owner h.owner
    pub willed : SameWilled
    pub looped : IsSame g.looped h.looped
    pub eff : SameEff

  -- Rebase: a thread that waits gets another priority, and a walk begins at its lock.
  pub record IsRebase (c t : ℕ) (w : Wait) : Type 0 where
    pub waiting : g.waits t ≡ Some w
    pub idle : g.walks c ≡ None
    pub walks : IsPut c (Some (record { lock = w.lock; seek = t; key = w.key })) g.walks h.walks
    pub waits : IsSame g.waits h.waits
    pub owner : IsSame g.owner h.owner
    pub willed : SameWilled
    pub looped : IsSame g.looped h.looped
    pub eff : (u : ℕ) (x : Wait) → u ≢ t → h.waits u ≡ Some x → h.eff u ≡ g.eff u

  module _ (n m : ℤ) (more : n <ℤ m) (sound : IsSoundGraph n g) where
    pub quiet_step : IsQuiet → IsStep g h n m
    quiet_step q = record {
      frame = record { stays = λ t o w is own. q.waits t ∙ is; owns = λ l o w own is. q.owner l ∙ own };
      more = more;
      owned = λ l o w own is. sym (q.owner l) ∙ own;
      came = λ t w is. inl (sym (q.waits t) ∙ is);
      willed = λ o l k is. q.owner l ∙ sound.local.owned o l k (sym (q.willed o l) ∙ is);
      fine = λ l o own. same_lock l o (sym (q.owner l) ∙ own) (q.willed o l) (λ t. inl (q.waits t)) (λ t on. q.eff t on.0 on.1) (stands_on (λ c v is. q.walks c ∙ is) l);
      walks = λ c v is. inl (sym (q.walks c) ∙ is);
      looped = λ t is. inl (sym (q.looped t) ∙ is);
    }

    pub block_step : (c t l : ℕ) → IsBlock n c t l → IsStep g h n m
    block_step c t l b = record {
      frame = record {
        stays = λ u o w is own. b.waits.others u (λ e. none_some (g.waits t) w b.rests (ap g.waits (sym e) ∙ is)) ∙ is;
        owns = λ l o w own is. b.owner l ∙ own;
      };
      more = more;
      owned = λ l o w own is. sym (b.owner l) ∙ own;
      came = came;
      willed = λ o l k is. b.owner l ∙ sound.local.owned o l k (sym (b.willed o l) ∙ is);
      fine = fine;
      walks = λ d v is. elim (put_cases c _ g.walks h.walks b.walks d) [
        | inl here_is ↦ inr (begun v (same_Some _ v (sym here_is.1 ∙ is)))
        | inr other ↦ inl (sym other.1 ∙ is)
      ];
      looped = λ u is. inl (sym (b.looped u) ∙ is);
    }
      where
        came : (u : ℕ) (w : Wait) → h.waits u ≡ Some w → (g.waits u ≡ Some w) ⊎ (w.key ≡ n)
        came u w is = elim (put_cases t _ g.waits h.waits b.waits u) [
          | inl mine ↦ inr (ap (λ (x : Wait). x.key) (same_Some w (record { lock = l; key = n }) (sym is ∙ mine.1)))
          | inr other ↦ inl (sym other.1 ∙ is)
        ]

        fine : (k o : ℕ) → h.owner k ≡ Some o → IsFine g h k o
        fine k o own = elim (cases_eq k l) [
          | inl is ↦ walked (c, record { lock = l; seek = t; key = n }, b.walks.at, sym is)
          | inr other ↦ same_lock k o (sym (b.owner k) ∙ own) (b.willed o k)
              (λ u. elim (put_cases t _ g.waits h.waits b.waits u) [
                | inl mine ↦ inr (
                  (λ on. none_some (g.waits t) on.0 b.rests (ap g.waits (sym mine.0) ∙ on.1)),
                  (λ on. other (sym on.2 ∙ ap (λ (x : Wait). x.lock) (same_Some on.0 (record { lock = l; key = n }) (sym on.1 ∙ mine.1)))),
                )
                | inr apart ↦ inl apart.1
              ])
              (λ u on. b.eff u on.0 on.1) (stands_on (put_walks_stay c _ b.idle b.walks) k)
        ]

        begun : (v : Walk) → record { lock = l; seek = t; key = n } ≡ v → Follows h v × (v.key <ℤ m)
        begun v is = subst (λ (x : Walk). Follows h x × (x.key <ℤ m)) is
            ((λ o w own waits less. ((record { lock = l; key = n }, b.waits.at, refl), here (record { lock = l; key = n }) b.waits.at (omega (arith, ints)) refl)), more)

    pub release_step : (o l : ℕ) → IsRelease o l → IsStep g h n m
    release_step o l r = record {
      frame = record {
        stays = λ t u w is own. r.waits t ∙ is;
        owns = λ k u w own is. r.owner.others k (λ e. none_some (g.waits u) w (ap g.waits (same_Some u o (sym own ∙ ap g.owner e ∙ r.own)) ∙ r.rests) is) ∙ own;
      };
      more = more;
      owned = λ k u w own is. was k u own;
      came = λ t w is. inl (sym (r.waits t) ∙ is);
      willed = λ u k x is. elim (cases_eq k l) [
        | inl at ↦ elim (cases_eq u o) [
          | inl me ↦ absurd (none_some (h.willed u k) x (ap (λ y. h.willed y k) me ∙ ap (h.willed o) at ∙ r.gone) is)
          | inr him ↦ absurd (him (same_Some u o (sym (sound.local.owned u k x (sym (r.willed u k (λ e f. him e)) ∙ is)) ∙ ap g.owner at ∙ r.own)))
        ]
        | inr other ↦ r.owner.others k other ∙ sound.local.owned u k x (sym (r.willed u k (λ e f. other f)) ∙ is)
      ];
      fine = λ k u own. same_lock k u (was k u own) (r.willed u k (λ e f. apart k u own f)) (λ t. inl (r.waits t)) (λ t on. r.eff t on.0 on.1) (stands_on (λ c v is. r.walks c ∙ is) k);
      walks = λ c v is. inl (sym (r.walks c) ∙ is);
      looped = λ t is. inl (sym (r.looped t) ∙ is);
    }
      where
        apart : (k u : ℕ) → h.owner k ≡ Some u → k ≢ l
        apart k u own e = none_some (h.owner k) u (ap h.owner e ∙ r.owner.at) own

        was : (k u : ℕ) → h.owner k ≡ Some u → g.owner k ≡ Some u
        was k u own = sym (r.owner.others k (apart k u own)) ∙ own

    pub acquire_step : (t l : ℕ) → IsAcquire t l → IsStep g h n m
    acquire_step t l a = record {
      frame = record {
        stays = λ u o w is own. a.waits.others u (λ e. none_some (g.owner w.lock) o (ap g.owner (a.waited w (ap g.waits (sym e) ∙ is)) ∙ a.free) own) ∙ is;
        owns = λ k u w own is. stayed k u own;
      };
      more = more;
      owned = λ k u w own is. elim (put_cases l _ g.owner h.owner a.owner k) [
        | inl new ↦ absurd (none_some (h.waits u) w (ap h.waits (same_Some u t (sym own ∙ new.1)) ∙ a.waits.at) is)
        | inr old ↦ sym old.1 ∙ own
      ];
      came = λ u w is. elim (put_cases t _ g.waits h.waits a.waits u) [
        | inl me ↦ absurd (none_some (h.waits u) w me.1 is)
        | inr old ↦ inl (sym old.1 ∙ is)
      ];
      willed = λ u k x is. elim (cases_eq k l) [
        | inl at ↦ elim (cases_eq u t) [
          | inl me ↦ ap h.owner at ∙ a.owner.at ∙ ap Some (sym me)
          | inr him ↦ absurd (none_some (g.owner k) u (ap g.owner at ∙ a.free) (sound.local.owned u k x (sym (a.willed u k (λ e f. him e)) ∙ is)))
        ]
        | inr other ↦ a.owner.others k other ∙ sound.local.owned u k x (sym (a.willed u k (λ e f. other f)) ∙ is)
      ];
      fine = λ k u own. elim (put_cases l _ g.owner h.owner a.owner k) [
        | inl new ↦ fresh (subst (λ y. IsExact h k (h.willed y k)) (sym (same_Some u t (sym own ∙ new.1))) (subst (λ y. IsExact h y (h.willed t y)) (sym new.0) a.exact))
        | inr old ↦ same_lock k u (sym old.1 ∙ own) (a.willed u k (λ e f. old.0 f))
            (λ v. elim (put_cases t _ g.waits h.waits a.waits v) [
              | inl me ↦ inr (
                (λ on. old.0 (sym on.2 ∙ a.waited on.0 (ap g.waits (sym me.0) ∙ on.1))),
                (λ on. none_some (h.waits v) on.0 me.1 on.1),
              )
              | inr apart ↦ inl apart.1
            ])
            (λ v on. a.eff v on.0 on.1) (stands_on (λ c v is. a.walks c ∙ is) k)
      ];
      walks = λ c v is. inl (sym (a.walks c) ∙ is);
      looped = λ u is. inl (sym (a.looped u) ∙ is);
    }
      where
        stayed : (k u : ℕ) → g.owner k ≡ Some u → h.owner k ≡ Some u
        stayed k u own = a.owner.others k (λ e. none_some (g.owner k) u (ap g.owner e ∙ a.free) own) ∙ own

    pub leave_step : (t : ℕ) → IsLeave t → IsStep g h n m
    leave_step t a = record {
      frame = record {
        stays = λ u o w is own. a.waits.others u (λ e. none_some (g.owner w.lock) o (a.free w (ap g.waits (sym e) ∙ is)) own) ∙ is;
        owns = λ k u w own is. a.owner k ∙ own;
      };
      more = more;
      owned = λ k u w own is. sym (a.owner k) ∙ own;
      came = λ u w is. elim (put_cases t _ g.waits h.waits a.waits u) [
        | inl me ↦ absurd (none_some (h.waits u) w me.1 is)
        | inr old ↦ inl (sym old.1 ∙ is)
      ];
      willed = λ u k x is. a.owner k ∙ sound.local.owned u k x (sym (a.willed u k) ∙ is);
      fine = λ k u own. same_lock k u (sym (a.owner k) ∙ own) (a.willed u k)
          (λ v. elim (put_cases t _ g.waits h.waits a.waits v) [
            | inl me ↦ inr (
              (λ on. none_some (g.owner k) u (ap g.owner (sym on.2) ∙ a.free on.0 (ap g.waits (sym me.0) ∙ on.1)) (sym (a.owner k) ∙ own)),
              (λ on. none_some (h.waits v) on.0 me.1 on.1),
            )
            | inr apart ↦ inl apart.1
          ])
          (λ v on. a.eff v on.0 on.1) (stands_on (λ c v is. a.walks c ∙ is) k);
      walks = λ c v is. inl (sym (a.walks c) ∙ is);
      looped = λ u is. inl (sym (a.looped u) ∙ is);
    }

    pub end_step : (c : ℕ) (v : Walk) → IsEnd c v → IsStep g h n m
    end_step c v a = record {
      frame = record { stays = λ t o w is own. a.waits t ∙ is; owns = λ l o w own is. a.owner l ∙ own };
      more = more;
      owned = λ l o w own is. sym (a.owner l) ∙ own;
      came = λ t w is. inl (sym (a.waits t) ∙ is);
      willed = λ o l k is. a.owner l ∙ sound.local.owned o l k (sym (a.willed o l) ∙ is);
      fine = λ l o own. same_lock l o (sym (a.owner l) ∙ own) (a.willed o l) (λ t. inl (a.waits t)) (λ t on. a.eff t on.0 on.1)
          (λ st. elim (put_cases c _ g.walks h.walks a.walks st.0) [
            | inl mine ↦ absurd (none_some (g.owner l) o (ap g.owner (sym st.3 ∙ ap (λ (x : Walk). x.lock) (same_Some st.1 v (sym st.2 ∙ ap g.walks mine.0 ∙ a.was))) ∙ a.free) (sym (a.owner l) ∙ own))
            | inr other ↦ (st.0, st.1, other.1 ∙ st.2, st.3)
          ]);
      walks = λ d x is. elim (put_cases c _ g.walks h.walks a.walks d) [
        | inl mine ↦ absurd (none_some (h.walks d) x mine.1 is)
        | inr other ↦ inl (sym other.1 ∙ is)
      ];
      looped = λ t is. inl (sym (a.looped t) ∙ is);
    }

    pub rebase_step : (c t : ℕ) (w : Wait) → IsRebase c t w → IsStep g h n m
    rebase_step c t w a = record {
      frame = record { stays = λ t o w is own. a.waits t ∙ is; owns = λ l o w own is. a.owner l ∙ own };
      more = more;
      owned = λ l o w own is. sym (a.owner l) ∙ own;
      came = λ t w is. inl (sym (a.waits t) ∙ is);
      willed = λ o l k is. a.owner l ∙ sound.local.owned o l k (sym (a.willed o l) ∙ is);
      fine = λ l o own. elim (cases_eq l w.lock) [
        | inl is ↦ walked (c, record { lock = w.lock; seek = t; key = w.key }, a.walks.at, sym is)
        | inr other ↦ same_lock l o (sym (a.owner l) ∙ own) (a.willed o l) (λ u. inl (a.waits u))
            (λ u on. a.eff u on.0 (λ e. other (sym on.2 ∙ ap (λ (x : Wait). x.lock) (same_Some on.0 w (sym on.1 ∙ a.waits u ∙ ap g.waits e ∙ a.waiting)))) on.1)
            (stands_on (put_walks_stay c _ a.idle a.walks) l)
      ];
      walks = λ d v is. elim (put_cases c _ g.walks h.walks a.walks d) [
        | inl mine ↦ inr (begun v (same_Some _ v (sym mine.1 ∙ is)))
        | inr other ↦ inl (sym other.1 ∙ is)
      ];
      looped = λ u is. inl (sym (a.looped u) ∙ is);
    }
      where
        begun : (v : Walk) → record { lock = w.lock; seek = t; key = w.key } ≡ v → Follows h v × (v.key <ℤ m)
        begun v is = subst (λ (x : Walk). Follows h x × (x.key <ℤ m)) is (
          (λ o x own waits less. ((w, a.waits t ∙ a.waiting, refl), here w (a.waits t ∙ a.waiting) (omega (arith, ints)) refl)),
          (let low = sound.wait_keys t w a.waiting in omega (arith, ints)),
        )

-- nobody keeps a number for a lock that nobody owns
pub unowned : (g : Graph) → IsLocal g → (o l : ℕ) → g.owner l ≡ None → g.willed o l ≡ None
unowned g local o l free = by (g.willed o l) refl
  where
    by : (k : Option ℕ) → g.willed o l ≡ k → k ≡ None
    by None e = refl
    by (Some k) e = absurd (none_some (g.owner l) o free (local.owned o l k e))
