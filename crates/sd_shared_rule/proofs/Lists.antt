-- Numbers in lists, changed functions, and the entries of one processor.
use Rattle.std.proofs.Common.{◌≡◌, ◌≢◌, ℕ, true, false, eqb, cond, List, [], ◌∷◌, ◌++◌, filter, refl, ap, ◌∙◌, subst, ⊎_elim, arith}
use Rattle.std.proofs.lemmas.Bool.{cases_eq}
use Rattle.std.proofs.lemmas.Bool.Decides.{nat_tests}
use Rattle.sd_types.specs.declared.events.Entry.{Entry}
use Rattle.sd_shared_rule.specs.Ledgers.{by}
use Rattle.sd_shared_rule.specs.Places.{Apart, holds, without}
use Rattle.sd_shared_rule.specs.Words.{put}

pub put_here : {A : Type 0} (f : ℕ → A) (k : ℕ) (x : A) → put f k x k ≡ x
unfolding put
put_here f k x = grind (arith, nat_tests)

pub put_else : {A : Type 0} (f : ℕ → A) (k : ℕ) (x : A) (j : ℕ) → j ≢ k → put f k x j ≡ f j
unfolding put
put_else f k x j n = grind (arith, nat_tests)

pub holds-nil : (k : ℕ) → holds k [] ≡ false
unfolding holds
holds-nil k = refl

pub holds_here : (k : ℕ) (ks : List ℕ) → holds k (k ∷ ks) ≡ true
unfolding holds
holds_here k ks = grind (arith, nat_tests)

pub holds_cons : (j k : ℕ) (ks : List ℕ) → holds j ks ≡ true → holds j (k ∷ ks) ≡ true
unfolding holds
holds_cons j k ks h = grind (arith, nat_tests)

pub holds_from_without : (j k : ℕ) (ks : List ℕ) → holds j (without k ks) ≡ true → holds j ks ≡ true
unfolding holds without
holds_from_without j k [] h = h
holds_from_without j k (i ∷ is) h =
    ⊎_elim (λ (t : i ≡ k). grind (arith, nat_tests))
    (λ (t : i ≢ k). ⊎_elim (λ (e : i ≡ j). grind (arith, nat_tests)) (λ (e : i ≢ j). let r = holds_from_without j k is (let q : holds j (without k is) ≡ true = grind (arith, nat_tests) in q) in grind (arith, nat_tests)) (cases_eq i j))
    (cases_eq i k)

pub holds-cons_else : (j k : ℕ) (ks : List ℕ) → j ≢ k → holds j (k ∷ ks) ≡ holds j ks
unfolding holds
holds-cons_else j k ks n = grind (arith, nat_tests)

pub holds-without_else : (j k : ℕ) (ks : List ℕ) → j ≢ k → holds j (without k ks) ≡ holds j ks
unfolding holds without
holds-without_else j k [] n = refl
holds-without_else j k (i ∷ is) n =
    let e = holds-without_else j k is n in
    ⊎_elim (λ (t : i ≡ k). let q : (j ≡ i) → ⊥ = λ u. n (u ∙ t) in grind (arith, nat_tests)) (λ (t : i ≢ k). grind (arith, nat_tests)) (cases_eq i k)

pub holds-without_same : (k : ℕ) (ks : List ℕ) → Apart ks → holds k (without k ks) ≡ false
unfolding holds without
holds-without_same k [] a = refl
holds-without_same k (i ∷ is) a =
    let e = holds-without_same k is a.1 in
    ⊎_elim (λ (t : i ≡ k). let q = a.0 in grind (arith, nat_tests)) (λ (t : i ≢ k). grind (arith, nat_tests)) (cases_eq i k)

pub apart-without : (k : ℕ) (ks : List ℕ) → Apart ks → Apart (without k ks)
unfolding without holds
apart-without k [] a = tt
apart-without k (i ∷ is) a =
    ⊎_elim (λ (t : i ≡ k). subst (λ l. Apart l) (let e : is ≡ without k (i ∷ is) = grind (arith, nat_tests) in e) a.1)
    (λ (t : i ≢ k). subst (λ l. Apart l) (let e : i ∷ without k is ≡ without k (i ∷ is) = grind (arith, nat_tests) in e) (holds-without_else i k is t ∙ a.0, apart-without k is a.1))
    (cases_eq i k)

pub by-nil : (c : ℕ) → by c [] ≡ []
unfolding by
by-nil c = refl

pub by_mine : (c : ℕ) (h : List Entry) (e : Entry) → e.cpu.0 ≡ c → by c (h ++ e ∷ []) ≡ by c h ++ e ∷ []
unfolding by
by_mine c [] e is = grind (arith, nat_tests)
by_mine c (x ∷ xs) e is = let r = by_mine c xs e is in elim (eqb x.cpu.0 c) as (λ b. cond b (x ∷ filter (λ y. eqb y.cpu.0 c) (xs ++ e ∷ [])) (filter (λ y. eqb y.cpu.0 c) (xs ++ e ∷ [])) ≡ cond b (x ∷ filter (λ y. eqb y.cpu.0 c) xs) (filter (λ y. eqb y.cpu.0 c) xs) ++ e ∷ []) [ true ↦ ap (λ l. x ∷ l) r | false ↦ r ]

pub by_else : (c : ℕ) (h : List Entry) (e : Entry) → e.cpu.0 ≢ c → by c (h ++ e ∷ []) ≡ by c h
unfolding by
by_else c [] e is = grind (arith, nat_tests)
by_else c (x ∷ xs) e is = let r = by_else c xs e is in elim (eqb x.cpu.0 c) as (λ b. cond b (x ∷ filter (λ y. eqb y.cpu.0 c) (xs ++ e ∷ [])) (filter (λ y. eqb y.cpu.0 c) (xs ++ e ∷ [])) ≡ cond b (x ∷ filter (λ y. eqb y.cpu.0 c) xs) (filter (λ y. eqb y.cpu.0 c) xs)) [ true ↦ ap (λ l. x ∷ l) r | false ↦ r ]
