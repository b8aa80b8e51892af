-- What a step from g to h has to keep, and that what holds of every state is then kept.
use Rattle.std.proofs.Common.{◌≡◌, ℕ, true, false, Option, Some, None, ℤ, sym, ap, ◌∙◌, subst, ◌⊎◌, inl, inr, arith}
use Rattle.std.proofs.lemmas.Bool.{false≢true}
use Rattle.std.proofs.lemmas.Int.{ints}
use Rattle.std.specs.Prelude.{◌<ℤ◌}
use Rattle.sd_machine.specs.Graphs.{Wait, Walk, Graph, IsOn, IsAhead, IsBehind, InCycle, Stands, IsExact, Reaches, HasKey, Follows, IsSoundGraph}
use Rattle.sd_machine.specs.Graphs.IsBehind.{near, far}
use Rattle.sd_machine.specs.Graphs.Reaches.{here, on}
use Rattle.std.proofs.lemmas.Option.{same_Some}

-- a thread behind another waits
pub behind_waits : (g : Graph) (o t : ℕ) → IsBehind g o t → (w : Wait) × (g.waits t ≡ Some w)
behind_waits g o t (near a) = (a.0, a.1)
behind_waits g o t (far a r) = (a.0, a.1)

-- a thread whose chain reaches an owned lock waits on an owned lock
pub reaches_waits : (g : Graph) (k : ℤ) (l s o : ℕ) → Reaches g k l s → g.owner l ≡ Some o → (u : ℕ) × IsAhead g s u
reaches_waits g k l s o (here v is le at) own = (o, (v, is, ap g.owner at ∙ own))
reaches_waits g k l s o (on {o = u} v is le ahead r) own = (u, (v, is, ahead))

module _ (g h : Graph) where
  -- a thread that waits on an owned lock goes on waiting, and an owner that waits keeps its locks
  pub record IsFrame : Type 0 where
    pub stays : (t o : ℕ) (w : Wait) → g.waits t ≡ Some w → g.owner w.lock ≡ Some o → h.waits t ≡ Some w
    pub owns : (l o : ℕ) (w : Wait) → g.owner l ≡ Some o → g.waits o ≡ Some w → h.owner l ≡ Some o

  pub behind_stays : IsFrame → (o t : ℕ) (x : Wait) → g.waits o ≡ Some x → IsBehind g o t → IsBehind h o t
  behind_stays f o t x is (near a) = near (a.0, f.stays t o a.0 a.1 a.2, f.owns a.0.lock o x a.2 is)
  behind_stays f o t x is (far {u = u} a r) =
      let next = behind_waits g o u r in
      far (a.0, f.stays t u a.0 a.1 a.2, f.owns a.0.lock u next.0 a.2 next.1) (behind_stays f o u x is r)

  -- a blocking cycle of g is one of h
  pub cycle_stays : IsFrame → (o : ℕ) → InCycle g o → InCycle h o
  cycle_stays f o c = let is = behind_waits g o o c in behind_stays f o o is.0 is.1 c

  pub reaches_stays : IsFrame → (k : ℤ) (l s o : ℕ) → Reaches g k l s → g.owner l ≡ Some o → Reaches h k l s
  reaches_stays f k l s o (here v is le at) own = here v (f.stays s o v is (ap g.owner at ∙ own)) le at
  reaches_stays f k l s o (on {o = u} v is le ahead r) own =
      let next = (reaches_waits g k l u o r own).1 in
      on v (f.stays s u v is ahead) le (f.owns v.lock u next.0 ahead next.1) (reaches_stays f k l u o r own)

  -- a key that a thread with such a chain has stays
  pub key_stays : IsFrame → (k : ℤ) (l s o : ℕ) → Reaches g k l s → g.owner l ≡ Some o → HasKey g k s → HasKey h k s
  key_stays f k l s o r own (w, is, key) =
      let next = reaches_waits g k l s o r own in
      let same : next.1.0 ≡ w = same_Some next.1.0 w (sym next.1.1 ∙ is) in
      (w, f.stays s next.0 w is (ap (λ (y : Wait). g.owner y.lock) (sym same) ∙ next.1.2), key)

  -- the lock and its waiters are as they were
  pub record IsSameAt (l o : ℕ) : Type 0 where
    pub own : g.owner l ≡ Some o
    pub willed : h.willed o l ≡ g.willed o l
    pub to : (t : ℕ) → IsOn g l t → IsOn h l t
    pub from : (t : ℕ) → IsOn h l t → IsOn g l t
    pub eff : (t : ℕ) → IsOn h l t → h.eff t ≡ g.eff t
    pub stood : Stands g l → Stands h l

  -- why nothing is wrong at a lock l of o
  pub data IsFine (l o : ℕ) : Type 0 where
    same : IsSameAt l o → IsFine l o
    fresh : IsExact h l (h.willed o l) → IsFine l o
    walked : Stands h l → IsFine l o
    cyclic : InCycle h o → IsFine l o

  -- what is exact of g is so of h, where the waiters and their priorities are the same
  pub exact_stays : (l : ℕ) → ((t : ℕ) → IsOn g l t → IsOn h l t) → ((t : ℕ) → IsOn h l t → IsOn g l t) → ((t : ℕ) → IsOn h l t → h.eff t ≡ g.eff t)
      → (k : Option ℕ) → IsExact g l k → IsExact h l k
  exact_stays l to from eff None none = λ t on. none t (from t on)
  exact_stays l to from eff (Some n) is = record {
    most = λ t on. let less = is.most t (from t on) in let e = eff t on in omega arith;
    got = (is.got.0, to is.got.0 is.got.1, eff is.got.0 (to is.got.0 is.got.1) ∙ is.got.2);
  }

  module _ (n m : ℤ) where
    pub record IsStep : Type 0 where
      pub frame : IsFrame
      pub more : n <ℤ m
      pub owned : (l o : ℕ) (w : Wait) → h.owner l ≡ Some o → h.waits o ≡ Some w → g.owner l ≡ Some o
      -- who comes to wait has a key that no walk had
      pub came : (t : ℕ) (w : Wait) → h.waits t ≡ Some w → (g.waits t ≡ Some w) ⊎ (w.key ≡ n)
      pub willed : (o l k : ℕ) → h.willed o l ≡ Some k → h.owner l ≡ Some o
      pub fine : (l o : ℕ) → h.owner l ≡ Some o → IsFine l o
      pub walks : (c : ℕ) (v : Walk) → h.walks c ≡ Some v → (g.walks c ≡ Some v) ⊎ (Follows h v × (v.key <ℤ m))
      pub looped : (t : ℕ) → h.looped t ≡ true → (g.looped t ≡ true) ⊎ InCycle h t

    module _ (sound : IsSoundGraph n g) (step : IsStep) where
      exact_kept : (l o : ℕ) → IsFine l o → (InCycle h o → ⊥) → (Stands h l → ⊥) → IsExact h l (h.willed o l)
      exact_kept l o (same s) open_chain free =
          subst (IsExact h l) (sym s.willed)
          (exact_stays l s.to s.from s.eff (g.willed o l) (sound.local.exact l o s.own (λ c. open_chain (cycle_stays step.frame o c)) (λ st. free (s.stood st))))
      exact_kept l o (fresh e) open_chain free = e
      exact_kept l o (walked st) open_chain free = absurd (free st)
      exact_kept l o (cyclic c) open_chain free = absurd (open_chain c)

      follows_kept : (c : ℕ) (v : Walk) → g.walks c ≡ Some v → Follows h v
      follows_kept c v at o w own waits less = elim (step.came o w waits) [
        | inl old ↦
            let was = step.owned v.lock o w own waits in
            let both = sound.follows c v at o w was old less in
            (key_stays step.frame v.key v.lock v.seek o both.1 was both.0, reaches_stays step.frame v.key v.lock v.seek o both.1 was)
        | inr new ↦ let low = sound.walk_keys c v at in let e : w.key ≡ n = new in absurd (omega (arith, ints))
      ]

      pub step_sound : IsSoundGraph m h
      step_sound = record {
        local = record { owned = step.willed; exact = λ l o own. exact_kept l o (step.fine l o own) };
        follows = λ c v at. elim (step.walks c v at) [ inl old ↦ follows_kept c v old | inr new ↦ new.0 ];
        looped = λ t is. elim (step.looped t is) [ inl old ↦ cycle_stays step.frame t (sound.looped t old) | inr new ↦ new ];
        wait_keys = λ t w is. let more = step.more in elim (step.came t w is) [ inl old ↦ (let low = sound.wait_keys t w old in omega (arith, ints)) | inr new ↦ (let e : w.key ≡ n = new in omega (arith, ints)) ];
        walk_keys = λ c v at. let more = step.more in elim (step.walks c v at) [ inl old ↦ (let low = sound.walk_keys c v old in omega (arith, ints)) | inr new ↦ new.1 ];
      }

-- nothing waits, is owned or walks in the initial state
pub empty_sound : (n : ℤ) (g : Graph) → ((t : ℕ) → g.waits t ≡ None) → ((l : ℕ) → g.owner l ≡ None) → ((o l : ℕ) → g.willed o l ≡ None) → ((c : ℕ) → g.walks c ≡ None)
    → ((t : ℕ) → g.looped t ≡ false) → IsSoundGraph n g
empty_sound n g waits owner willed walks looped = record {
  local = record {
    owned = λ o l k is. let bad : None ≡ Some k = sym (willed o l) ∙ is in absurd (cc);
    exact = λ l o own. let bad : None ≡ Some o = sym (owner l) ∙ own in absurd (cc);
  };
  follows = λ c v is. let bad : None ≡ Some v = sym (walks c) ∙ is in absurd (cc);
  looped = λ t is. absurd (false≢true (sym (looped t) ∙ is));
  wait_keys = λ t w is. let bad : None ≡ Some w = sym (waits t) ∙ is in absurd (cc);
  walk_keys = λ c v is. let bad : None ≡ Some v = sym (walks c) ∙ is in absurd (cc);
}
