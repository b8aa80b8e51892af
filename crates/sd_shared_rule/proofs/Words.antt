-- The words of the threads, step by step.
use Rattle.std.proofs.Common.{◌≡◌, ◌≢◌, ℕ, zero, suc, ◌<◌, true, false, List, [], length, refl, sym, ap, ◌∙◌, subst, ⊎_elim, arith}
use Rattle.std.proofs.lemmas.Bool.{cases_eq, false≢true}
use Rattle.sd_types.specs.declared.works.Work.{Work}
use Rattle.sd_state.specs.declared.states.State.{State}
use Rattle.sd_shared_rule.specs.Ledgers.{Named, NamedBy}
use Rattle.sd_shared_rule.specs.Places.{holds, home_count, place_home, without}
use Rattle.sd_shared_rule.specs.Words.{put}
use Rattle.sd_shared_rule.proofs.Lists.{put_here, put_else, holds-nil, holds-without_else, holds_from_without}

some_lock : (c : ℕ) → suc c ≡ 0 → ⊥
some_lock c e = omega arith

module _ (w : Work) (s : State) (lock word : ℕ → ℕ) (stray : ℕ → List ℕ) (named : Named w s lock word stray) where
  free_named : (t : ℕ) → t < length w.threads → lock (place_home w s t) ≡ 0 → word t ≡ place_home w s t
  free_named t i e = subst (λ n. NamedBy w s lock word stray t n) e (named.each t i)

  held_named : (t c : ℕ) → t < length w.threads → lock (place_home w s t) ≡ suc c → (lock (word t) ≡ suc c) × (holds t (stray c) ≡ false → word t ≡ place_home w s t)
  held_named t c i e = subst (λ n. NamedBy w s lock word stray t n) e (named.each t i)

  pub takes : (k c : ℕ) → lock k ≡ 0 → Named w s (put lock k (suc c)) word stray
  takes k c free = record {
    each = λ t i. ⊎_elim (λ (e : place_home w s t ≡ k). here t i e) (λ (n : place_home w s t ≢ k). else t i n) (cases_eq (place_home w s t) k);
    inside = named.inside;
    stand = λ d t h. let was = named.stand d t h in (was.0, put_else lock k (suc c) (place_home w s t) (λ e. some_lock d (sym was.1 ∙ (ap lock e ∙ free))) ∙ was.1);
  }
    where
      new : ℕ → ℕ
      new = put lock k (suc c)

      here : (t : ℕ) → t < length w.threads → place_home w s t ≡ k → NamedBy w s (put lock k (suc c)) word stray t (put lock k (suc c) (place_home w s t))
      here t i e =
          let is : word t ≡ place_home w s t = free_named t i (ap lock e ∙ free) in
          subst (λ n. NamedBy w s (put lock k (suc c)) word stray t n) (sym (ap (put lock k (suc c)) e ∙ put_here lock k (suc c)))
          (ap (put lock k (suc c)) (is ∙ e) ∙ put_here lock k (suc c), λ _. is)

      else : (t : ℕ) → t < length w.threads → place_home w s t ≢ k → NamedBy w s (put lock k (suc c)) word stray t (put lock k (suc c) (place_home w s t))
      else t i n = subst (λ m. NamedBy w s (put lock k (suc c)) word stray t m) (sym (put_else lock k (suc c) (place_home w s t) n)) (cases (lock (place_home w s t)) refl)
        where
          cases : (m : ℕ) → lock (place_home w s t) ≡ m → NamedBy w s (put lock k (suc c)) word stray t m
          cases zero e = free_named t i e
          cases (suc d) e = let was = held_named t d i e in (put_else lock k (suc c) (word t) (λ q. some_lock d (sym was.0 ∙ (ap lock q ∙ free))) ∙ was.0, was.1)

  pub gives : (k c : ℕ) → lock k ≡ suc c → stray c ≡ [] → Named w s (put lock k 0) word stray
  gives k c mine settled = record {
    each = λ t i. ⊎_elim (λ (e : place_home w s t ≡ k). here t i e) (λ (n : place_home w s t ≢ k). else t i n) (cases_eq (place_home w s t) k);
    inside = named.inside;
    stand = λ d t h. let was = named.stand d t h in (was.0, put_else lock k 0 (place_home w s t) (λ e. none t d h (sym was.1 ∙ (ap lock e ∙ mine))) ∙ was.1);
  }
    where
      no_stray : (t : ℕ) → holds t (stray c) ≡ false
      no_stray t = ap (holds t) settled ∙ holds-nil t

      none : (t d : ℕ) → holds t (stray d) ≡ true → suc d ≡ suc c → ⊥
      none t d h e = let q : d ≡ c = omega arith in false≢true (sym (no_stray t) ∙ (ap (λ x. holds t (stray x)) (sym q) ∙ h))

      here : (t : ℕ) → t < length w.threads → place_home w s t ≡ k → NamedBy w s (put lock k 0) word stray t (put lock k 0 (place_home w s t))
      here t i e =
          let was = held_named t c i (ap lock e ∙ mine) in
          subst (λ n. NamedBy w s (put lock k 0) word stray t n) (sym (ap (put lock k 0) e ∙ put_here lock k 0)) (was.1 (no_stray t))

      else : (t : ℕ) → t < length w.threads → place_home w s t ≢ k → NamedBy w s (put lock k 0) word stray t (put lock k 0 (place_home w s t))
      else t i n = subst (λ m. NamedBy w s (put lock k 0) word stray t m) (sym (put_else lock k 0 (place_home w s t) n)) (cases (lock (place_home w s t)) refl)
        where
          cases : (m : ℕ) → lock (place_home w s t) ≡ m → NamedBy w s (put lock k 0) word stray t m
          cases zero e = free_named t i e
          cases (suc d) e =
              let was = held_named t d i e in
              let apart : word t ≢ k = λ q. (let same : suc d ≡ suc c = sym was.0 ∙ (ap lock q ∙ mine) in let dc : d ≡ c = omega arith in n (sym (was.1 (ap (λ x. holds t (stray x)) dc ∙ no_stray t)) ∙ q)) in
              (put_else lock k 0 (word t) apart ∙ was.0, was.1)

  pub publishes : (u c : ℕ) → u < length w.threads → place_home w s u < home_count w → lock (place_home w s u) ≡ suc c
      → Named w s lock (put word u (place_home w s u)) (put stray c (without u (stray c)))
  publishes u c iu inside mine = record {
    each = λ t i. ⊎_elim (λ (e : t ≡ u). here t e) (λ (n : t ≢ u). cases t i n (lock (place_home w s t)) refl) (cases_eq t u);
    inside = λ t i. ⊎_elim (λ (e : t ≡ u). subst (λ x. x < home_count w) (sym (ap new e ∙ put_here word u (place_home w s u))) inside) (λ (n : t ≢ u). subst (λ x. x < home_count w) (sym (put_else word u (place_home w s u) t n)) (named.inside t i)) (cases_eq t u);
    stand = λ d t h. ⊎_elim (λ (e : d ≡ c). mine_stands d t e h) (λ (n : d ≢ c). named.stand d t (sym (ap (holds t) (put_else stray c left d n)) ∙ h)) (cases_eq d c);
  }
    where
      new : ℕ → ℕ
      new = put word u (place_home w s u)

      left : List ℕ
      left = without u (stray c)

      strays : ℕ → List ℕ
      strays = put stray c left

      here : (t : ℕ) → t ≡ u → NamedBy w s lock new strays t (lock (place_home w s t))
      here t e =
          let is : new t ≡ place_home w s t = ap new e ∙ (put_here word u (place_home w s u) ∙ ap (place_home w s) (sym e)) in
          subst (λ n. NamedBy w s lock new strays t n) (sym (ap (λ x. lock (place_home w s x)) e ∙ mine)) (ap lock (is ∙ ap (place_home w s) e) ∙ mine, λ _. is)

      stray_else : (t d : ℕ) → t ≢ u → holds t (strays d) ≡ holds t (stray d)
      stray_else t d n =
          ⊎_elim (λ (e : d ≡ c). ap (holds t) (ap strays e ∙ put_here stray c left) ∙ (holds-without_else t u (stray c) n ∙ ap (λ x. holds t (stray x)) (sym e)))
          (λ (m : d ≢ c). ap (holds t) (put_else stray c left d m))
          (cases_eq d c)

      cases : (t : ℕ) → t < length w.threads → t ≢ u → (m : ℕ) → lock (place_home w s t) ≡ m → NamedBy w s lock new strays t (lock (place_home w s t))
      cases t i n zero e = subst (λ m. NamedBy w s lock new strays t m) (sym e) (put_else word u (place_home w s u) t n ∙ free_named t i e)
      cases t i n (suc d) e =
          let was = held_named t d i e in
          let same : new t ≡ word t = put_else word u (place_home w s u) t n in
          subst (λ m. NamedBy w s lock new strays t m) (sym e) (ap lock same ∙ was.0, λ h. same ∙ was.1 (sym (stray_else t d n) ∙ h))

      kept : (t : ℕ) → holds t left ≡ true → holds t (stray c) ≡ true
      kept t h = holds_from_without t u (stray c) h

      mine_stands : (d t : ℕ) → d ≡ c → holds t (strays d) ≡ true → (t < length w.threads) × (lock (place_home w s t) ≡ suc d)
      mine_stands d t e h = named.stand d t (ap (λ x. holds t (stray x)) e ∙ kept t (sym (ap (holds t) (ap strays e ∙ put_here stray c left)) ∙ h))

  -- a home that c holds and that a word names, where c has no strays
  pub looks : (t c : ℕ) → t < length w.threads → lock (word t) ≡ suc c → stray c ≡ [] → place_home w s t ≡ word t
  looks t c i mine settled = cases (lock (place_home w s t)) refl
    where
      cases : (m : ℕ) → lock (place_home w s t) ≡ m → place_home w s t ≡ word t
      cases zero e = sym (free_named t i e)
      cases (suc d) e =
          let was = held_named t d i e in
          let same : suc d ≡ suc c = sym was.0 ∙ mine in
          let dc : d ≡ c = omega arith in
          sym (was.1 (ap (λ x. holds t (stray x)) dc ∙ (ap (holds t) settled ∙ holds-nil t)))

  -- after an event, by which threads move between homes that c holds; each that moved is a stray, and so is each that was one
  pub commits : (s' : State) (c : ℕ) (strays : List ℕ)
      → ((t : ℕ) → t < length w.threads → place_home w s t ≢ place_home w s' t → (lock (place_home w s t) ≡ suc c) × (lock (place_home w s' t) ≡ suc c))
      → ((t : ℕ) → t < length w.threads → holds t strays ≡ false → (place_home w s t ≡ place_home w s' t) × (holds t (stray c) ≡ false))
      → ((t : ℕ) → holds t strays ≡ true → (t < length w.threads) × (lock (place_home w s' t) ≡ suc c))
      → Named w s' lock word (put stray c strays)
  commits s' c strays moved stays only = record {
    each = λ t i. cases t i (lock (place_home w s' t)) refl;
    inside = named.inside;
    stand = λ d t h. ⊎_elim
        (λ (e : d ≡ c). let was = only t (sym (ap (holds t) (ap (put stray c strays) e ∙ put_here stray c strays)) ∙ h) in (was.0, was.1 ∙ ap suc (sym e)))
        (λ (n : d ≢ c). let was = named.stand d t (sym (ap (holds t) (put_else stray c strays d n)) ∙ h) in (was.0, ap lock (sym (same t d was.0 was.1 n)) ∙ was.1))
        (cases_eq d c);
  }
    where
      same : (t d : ℕ) → t < length w.threads → lock (place_home w s t) ≡ suc d → d ≢ c → place_home w s t ≡ place_home w s' t
      same t d i e n = ⊎_elim (λ (q : place_home w s t ≡ place_home w s' t). q)
          (λ (q : place_home w s t ≢ place_home w s' t). absurd (n (let r : suc d ≡ suc c = sym e ∙ (moved t i q).0 in omega arith)))
          (cases_eq (place_home w s t) (place_home w s' t))

      cases : (t : ℕ) → t < length w.threads → (m : ℕ) → lock (place_home w s' t) ≡ m → NamedBy w s' lock word (put stray c strays) t (lock (place_home w s' t))
      cases t i zero e =
          subst (λ m. NamedBy w s' lock word (put stray c strays) t m) (sym e)
          (⊎_elim (λ (q : place_home w s t ≡ place_home w s' t). free_named t i (ap lock q ∙ e) ∙ q)
          (λ (q : place_home w s t ≢ place_home w s' t). absurd (some_lock c (sym (moved t i q).1 ∙ e)))
          (cases_eq (place_home w s t) (place_home w s' t)))
      cases t i (suc d) e =
          subst (λ m. NamedBy w s' lock word (put stray c strays) t m) (sym e)
          (⊎_elim (λ (x : d ≡ c). (at_mine t i d x e, λ h. settled t i d x e (sym (ap (holds t) (ap (put stray c strays) x ∙ put_here stray c strays)) ∙ h)))
          (λ (n : d ≢ c). let q = same' t i d n e in let was = held_named t d i (ap lock q ∙ e) in (was.0, λ h. was.1 (sym (ap (holds t) (put_else stray c strays d n)) ∙ h) ∙ q))
          (cases_eq d c))
        where
          same' : (t : ℕ) → t < length w.threads → (d : ℕ) → d ≢ c → lock (place_home w s' t) ≡ suc d → place_home w s t ≡ place_home w s' t
          same' t i d n e = ⊎_elim (λ (q : place_home w s t ≡ place_home w s' t). q)
              (λ (q : place_home w s t ≢ place_home w s' t). absurd (n (let r : suc d ≡ suc c = sym e ∙ (moved t i q).1 in omega arith)))
              (cases_eq (place_home w s t) (place_home w s' t))

          at_mine : (t : ℕ) → t < length w.threads → (d : ℕ) → d ≡ c → lock (place_home w s' t) ≡ suc d → lock (word t) ≡ suc d
          at_mine t i d x e = ⊎_elim (λ (q : place_home w s t ≡ place_home w s' t). (held_named t d i (ap lock q ∙ e)).0)
              (λ (q : place_home w s t ≢ place_home w s' t). (held_named t c i (moved t i q).0).0 ∙ ap suc (sym x))
              (cases_eq (place_home w s t) (place_home w s' t))

          settled : (t : ℕ) → t < length w.threads → (d : ℕ) → d ≡ c → lock (place_home w s' t) ≡ suc d → holds t strays ≡ false → word t ≡ place_home w s' t
          settled t i d x e h =
              let was = stays t i h in
              (held_named t d i (ap lock was.0 ∙ e)).1 (ap (λ y. holds t (stray y)) x ∙ was.1) ∙ was.0
