-- Steps of a table of locks.
use Rattle.std.proofs.Common.{◌≡◌, ◌≢◌, ℕ, zero, suc, ◌<◌, ◌≤◌, Bool, true, false, cond, Some, refl, sym, ap, ◌∙◌, subst, inl, inr, arith}
use Rattle.std.proofs.lemmas.Bool.{cases_eq}
use Rattle.sd_machine.specs.Holders.{Pass, Table, counted, holders_of, IsAgreed}
use Rattle.sd_machine.specs.Holders.Lock.{Free, Owned, Passing}
use Rattle.sd_state.proofs.KeyLemmas.{IsPut}

-- Counting.

pub count_same : (f g : ℕ → Bool) (k : ℕ) → ((t : ℕ) → t < k → g t ≡ f t) → counted g k ≡ counted f k
count_same f g zero same = refl
count_same f g (suc k) same = rw (same k (omega arith)) (rw (count_same f g k (λ t lt. same t (omega arith))) refl)

-- one thread comes
pub count_more : (f g : ℕ → Bool) (t k : ℕ) → t < k → f t ≡ false → IsPut t true f g → counted g k ≡ suc (counted f k)
count_more f g t zero lt was put = absurd (omega arith)
count_more f g t (suc k) lt was put = elim (cases_eq k t) [
  | inl is ↦
      let now : g k ≡ true = ap g is ∙ put.at in
      let then_no : f k ≡ false = ap f is ∙ was in
      rw now (rw then_no (ap suc (count_same f g k (λ u low. put.others u (λ e. let bad : u ≡ t = e in let is' : k ≡ t = is in absurd (omega arith))))))
  | inr other ↦
      let same : g k ≡ f k = put.others k other in
      let rest = count_more f g t k (omega arith) was put in
      rw same (by (f k) rest)
]
  where
    by : (b : Bool) → counted g k ≡ suc (counted f k) → cond b (suc (counted g k)) (counted g k) ≡ suc (cond b (suc (counted f k)) (counted f k))
    by true e = ap suc e
    by false e = e

-- a holder is one, and two are two
pub count_one : (f : ℕ → Bool) (t k : ℕ) → t < k → f t ≡ true → 1 ≤ counted f k
count_one f t zero lt is = absurd (omega arith)
count_one f t (suc k) lt is = elim (cases_eq t k) [
  | inl at ↦ let here : f k ≡ true = ap f (sym at) ∙ is in rw here (omega arith)
  | inr other ↦ let rest = count_one f t k (omega arith) is in elim (f k) as (λ b. 1 ≤ cond b (suc (counted f k)) (counted f k)) [ true ↦ omega arith | false ↦ rest ]
]

count_two : (f : ℕ → Bool) (t u k : ℕ) → t < k → u < k → t ≢ u → f t ≡ true → f u ≡ true → 2 ≤ counted f k
count_two f t u zero lt lt' other is is' = absurd (omega arith)
count_two f t u (suc k) lt lt' other is is' = elim (cases_eq t k) [
  | inl at ↦ let here : f k ≡ true = ap f (sym at) ∙ is in let rest = count_one f u k (omega arith) is' in rw here (omega arith)
  | inr away ↦ elim (cases_eq u k) [
    | inl at ↦ let here : f k ≡ true = ap f (sym at) ∙ is' in let rest = count_one f t k (omega arith) is in rw here (omega arith)
    | inr away' ↦ let rest = count_two f t u k (omega arith) (omega arith) other is is' in elim (f k) as (λ b. 2 ≤ cond b (suc (counted f k)) (counted f k)) [ true ↦ omega arith | false ↦ rest ]
  ]
]

-- What the chains ask.

module _ (count : ℕ) (a : Table) (agreed : IsAgreed count a) where
  -- who holds an owned lock is its owner
  pub owner_alone : (l t u : ℕ) → a.lock l ≡ Owned t → a.holds u l ≡ true → u ≡ t
  owner_alone l t u is holds = elim (cases_eq u t) [
    | inl same ↦ same
    | inr other ↦
        let its = agreed.owner l t is in
        let two = count_two (λ v. a.holds v l) u t count (agreed.inside u l holds) its.0 other holds its.1 in
        let one : counted (λ v. a.holds v l) count ≡ 1 = agreed.holders l ∙ ap holders_of is in
        absurd (omega arith)
  ]

  -- nobody holds a free lock
  pub free_unheld : (l t : ℕ) → a.lock l ≡ Free → a.holds t l ≡ true → ⊥
  free_unheld l t is holds =
      let one = count_one (λ v. a.holds v l) t count (agreed.inside t l holds) holds in
      let none : counted (λ v. a.holds v l) count ≡ 0 = agreed.holders l ∙ ap holders_of is in
      omega arith

-- A step at one lock l, by processor c, for thread t.

module _ (a b : Table) where
  -- t comes to hold l, or gives it up, or neither; and the holders that the lock's state tells follow
  pub data IsHeldAfter (t l : ℕ) : Type 0 where
    stays : b.holds t l ≡ a.holds t l → holders_of (b.lock l) ≡ holders_of (a.lock l) → IsHeldAfter t l
    comes : a.holds t l ≡ false → b.holds t l ≡ true → holders_of (b.lock l) ≡ suc (holders_of (a.lock l)) → IsHeldAfter t l
    goes : a.holds t l ≡ true → b.holds t l ≡ false → suc (holders_of (b.lock l)) ≡ holders_of (a.lock l) → IsHeldAfter t l

  pub record IsAt (count c t l : ℕ) : Type 0 where
    pub t_in : t < count
    pub locks : (m : ℕ) → m ≢ l → b.lock m ≡ a.lock m
    pub holds : (u m : ℕ) → (u ≡ t → m ≡ l → ⊥) → b.holds u m ≡ a.holds u m
    pub held : IsHeldAfter t l
    -- who waits on another lock waited there before
    pub waits : (u m : ℕ) → m ≢ l → b.waits u ≡ Some m → a.waits u ≡ Some m
    pub owner : (u : ℕ) → b.lock l ≡ Owned u → (u < count) × (b.holds u l ≡ true)
    pub free : (u : ℕ) → b.lock l ≡ Free → b.waits u ≡ Some l → ⊥
    pub passes : (d : ℕ) → d ≢ c → b.passes d ≡ a.passes d
    -- c passed no other lock, and passes no other
    pub passed : (p : Pass) → a.passes c ≡ Some p → p.lock ≡ l
    pub now : (p : Pass) → b.passes c ≡ Some p → (p.lock ≡ l) × ((r : ℕ) × (b.lock l ≡ Passing c r) × (p.alone ≡ true → r ≡ 0))
    pub by : (d r : ℕ) → b.lock l ≡ Passing d r → (p : Pass) × (b.passes d ≡ Some p) × (p.lock ≡ l)
    -- where another processor passes l it goes on to
    pub still : (d : ℕ) (p : Pass) → d ≢ c → a.passes d ≡ Some p → p.lock ≡ l → (r : ℕ) × (b.lock l ≡ Passing d r) × (p.alone ≡ true → r ≡ 0)

  pub agreed_at : (count c t l : ℕ) → IsAt count c t l → IsAgreed count a → IsAgreed count b
  agreed_at count c t l at agreed = record {
    holders = λ m. elim (cases_eq m l) [
      | inl is ↦ subst (λ k. counted (λ u. b.holds u k) count ≡ holders_of (b.lock k)) (sym is) (here at.held)
      | inr other ↦ count_same (λ u. a.holds u m) (λ u. b.holds u m) count (λ u lt. at.holds u m (λ e f. other f)) ∙ agreed.holders m ∙ ap holders_of (sym (at.locks m other))
    ];
    owner = λ m u is. elim (cases_eq m l) [
      | inl same ↦ subst (λ k. (u < count) × (b.holds u k ≡ true)) (sym same) (at.owner u (ap b.lock (sym same) ∙ is))
      | inr other ↦ let old = agreed.owner m u (sym (at.locks m other) ∙ is) in (old.0, at.holds u m (λ e f. other f) ∙ old.1)
    ];
    free = λ m u is waits. elim (cases_eq m l) [
      | inl same ↦ at.free u (ap b.lock (sym same) ∙ is) (waits ∙ ap Some same)
      | inr other ↦ agreed.free m u (sym (at.locks m other) ∙ is) (at.waits u m other waits)
    ];
    passing = λ m d r is. elim (cases_eq m l) [
      | inl same ↦ subst (λ k. (p : Pass) × (b.passes d ≡ Some p) × (p.lock ≡ k)) (sym same) (at.by d r (ap b.lock (sym same) ∙ is))
      | inr other ↦
          let old = agreed.passing m d r (sym (at.locks m other) ∙ is) in
          (old.0, at.passes d (λ e. other (sym old.2 ∙ at.passed old.0 (ap a.passes (sym e) ∙ old.1))) ∙ old.1, old.2)
    ];
    passed = λ d p is. elim (cases_eq d c) [
      | inl mine ↦
          let new = at.now p (ap b.passes (sym mine) ∙ is) in
          (new.1.0, ap b.lock new.0 ∙ new.1.1 ∙ ap (λ e. Passing e new.1.0) (sym mine), new.1.2)
      | inr other ↦ elim (cases_eq p.lock l) [
        | inl same ↦
            let on = at.still d p other (sym (at.passes d other) ∙ is) same in
            (on.0, ap b.lock same ∙ on.1, on.2)
        | inr apart ↦
            let old = agreed.passed d p (sym (at.passes d other) ∙ is) in
            (old.0, at.locks p.lock apart ∙ old.1, old.2)
      ]
    ];
    inside = λ u m is. elim (cases_eq u t) [
      | inl same ↦ subst (λ v. v < count) (sym same) at.t_in
      | inr other ↦ agreed.inside u m (sym (at.holds u m (λ e f. other e)) ∙ is)
    ];
  }
    where
      others : (u : ℕ) → u ≢ t → b.holds u l ≡ a.holds u l
      others u other = at.holds u l (λ e f. other e)

      here : IsHeldAfter t l → counted (λ u. b.holds u l) count ≡ holders_of (b.lock l)
      here (stays same number) = count_same (λ u. a.holds u l) (λ u. b.holds u l) count (λ u lt. elim (cases_eq u t) [
        | inl is ↦ ap (λ v. b.holds v l) is ∙ same ∙ ap (λ v. a.holds v l) (sym is)
        | inr other ↦ others u other
      ]) ∙ agreed.holders l ∙ sym number
      here (comes was is number) =
          count_more (λ u. a.holds u l) (λ u. b.holds u l) t count at.t_in was (record { at = is; others = others }) ∙ ap suc (agreed.holders l) ∙ sym number
      here (goes was is number) =
          let one = count_more (λ u. b.holds u l) (λ u. a.holds u l) t count at.t_in is (record { at = was; others = λ u other. sym (others u other) }) in
          let old = agreed.holders l in
          omega arith
