-- What keeps a list in order, and what its first item is.
use Rattle.std.proofs.Common.{◌≡◌, ◌∙◌, ℕ, ℤ, Bool, true, false, ◌&&◌, List, [], ◌∷◌, Option, Some, None, drop, IfSome, refl, sym, subst, arith}
use Rattle.std.proofs.lemmas.Bool.Decides.{nat_tests}
use Rattle.std.proofs.lemmas.Int.{ints}
use Prim.Native.Nat.{zero, suc}
use Rattle.std.specs.Prelude.{int_lt, nat_lt, ◌==◌, ◌||◌}
use Rattle.std.specs.List.{Contains}
use Rattle.sd_boxq.specs.Order.{insert_before, precedes, precedes_keyed, insert_ranked, insert_keyed, find_first, drop_first, replace_first, find_id, replace_id, IsAlike, IsNowhere, IsInOrder, IsRanked, IsKeyed, IsBest}

-- nothing precedes what it stands behind, and to precede goes on
pub record IsStrict {X : Type 0} (before : X → X → Bool) : Type 0 where
  pub itself : (x : X) → before x x ≡ false
  pub back : (x y : X) → before x y ≡ true → before y x ≡ false
  pub past : (x y z : X) → before x y ≡ true → before z y ≡ false → before z x ≡ false

module _ {X : Type 0} (rank : X → ℕ) (key : X → ℤ) where
  pub precedes-strict : IsStrict (precedes rank key)
  precedes-strict = record {
    itself = λ x. grind (arith, nat_tests, ints);
    back = λ x y h. grind (arith, nat_tests, ints);
    past = λ x y z h n. grind (arith, nat_tests, ints);
  }

module _ {X : Type 0} (key : X → ℤ) (id : X → ℕ) where
  pub precedes_keyed-strict : IsStrict (precedes_keyed key id)
  precedes_keyed-strict = record {
    itself = λ x. grind (arith, nat_tests, ints);
    back = λ x y h. grind (arith, nat_tests, ints);
    past = λ x y z h n. grind (arith, nat_tests, ints);
  }

-- where all items have one rank and key, the item that is found is alike to one with its id
pub found_alike : {X : Type 0} (rank : X → ℕ) (key : X → ℤ) (id : X → ℕ) (n : ℕ) (y : X) (xs : List X) → id y ≡ n → ((x : X) → (rank x ≡ rank y) × (key x ≡ key y))
    → IfSome (find_id id n xs) (λ x. IsAlike rank key id x y)
found_alike rank key id n y [] e a = tt
found_alike rank key id n y (x ∷ xs) e a = by (id x == n) refl (found_alike rank key id n y xs e a)
  where
    by : (b : Bool) → (id x == n) ≡ b → IfSome (find_id id n xs) (λ z. IsAlike rank key id z y) → IfSome (find_id id n (x ∷ xs)) (λ z. IsAlike rank key id z y)
    by true h r = let same : id x ≡ n = grind (arith, nat_tests) in rw h ((a x).0, (a x).1, same ∙ sym e)
    by false h r = rw h r

found_within : {X : Type 0} (p : X → Bool) (x : X) (ys : List X) → find_first p ys ≡ Some x → Contains ys x
found_within p x [] e = absurd cc
found_within p x (y ∷ ys) e = by (p y) refl (found_within p x ys)
  where
    by : (b : Bool) → p y ≡ b → (find_first p ys ≡ Some x → Contains ys x) → Contains (y ∷ ys) x
    by true h r = let found = rw h at e in (zero, omega arith, cc)
    by false h r = let on = r (rw h at e) in let within = on.1 in (suc on.0, omega arith, on.2)

module _ {X : Type 0} (before : X → X → Bool) (s : IsStrict before) where
  behind : (x y : X) (ys : List X) → before x y ≡ true → IsNowhere (λ z. before z y) ys → IsNowhere (λ z. before z x) ys
  behind x y [] h n = tt
  behind x y (z ∷ ys) h n = (s.past x y z h n.0, behind x y ys h n.1)

  nowhere-insert : (q p : X → Bool) (x : X) (ys : List X) → p x ≡ false → IsNowhere p ys → IsNowhere p (insert_before q x ys)
  nowhere-insert q p x [] e n = (e, tt)
  nowhere-insert q p x (y ∷ ys) e n = grind (arith, nowhere-insert q p x ys e n.1)

  pub in_order-insert : (x : X) (ys : List X) → IsInOrder before ys → IsInOrder before (insert_before (before x) x ys)
  in_order-insert x [] o = (tt, tt)
  in_order-insert x (y ∷ ys) o = by (before x y) refl (in_order-insert x ys o.1)
    where
      by : (b : Bool) → before x y ≡ b → IsInOrder before (insert_before (before x) x ys) → IsInOrder before (insert_before (before x) x (y ∷ ys))
      by true e r = rw e ((s.back x y e, behind x y ys e o.0), o)
      by false e r = rw e (nowhere-insert (before x) (λ z. before z y) x ys e o.0, r)

  nowhere-drop_first : (p q : X → Bool) (ys : List X) → IsNowhere q ys → IsNowhere q (drop_first p ys)
  nowhere-drop_first p q [] n = tt
  nowhere-drop_first p q (y ∷ ys) n = grind (arith, nowhere-drop_first p q ys n.1)

  pub in_order-drop_first : (p : X → Bool) (ys : List X) → IsInOrder before ys → IsInOrder before (drop_first p ys)
  in_order-drop_first p [] o = tt
  in_order-drop_first p (y ∷ ys) o = by (p y) refl (in_order-drop_first p ys o.1)
    where
      by : (b : Bool) → p y ≡ b → IsInOrder before (drop_first p ys) → IsInOrder before (drop_first p (y ∷ ys))
      by true e r = rw e o.1
      by false e r = rw e (nowhere-drop_first p (λ z. before z y) ys o.0, r)

  pub in_order-drop : (ys : List X) → IsInOrder before ys → IsInOrder before (drop 1 ys)
  in_order-drop [] o = tt
  in_order-drop (y ∷ ys) o = o.1

  and-nowhere : (p q : X → Bool) (ys : List X) → IsNowhere q ys → IsNowhere (λ y. p y && q y) ys
  and-nowhere p q [] n = tt
  and-nowhere p q (y ∷ ys) n = grind (arith, and-nowhere p q ys n.1)

  -- the first item that passes is the best of those that pass
  pub find_first-best : (p : X → Bool) (x : X) (ys : List X) → IsInOrder before ys → find_first p ys ≡ Some x → IsBest p before x ys
  find_first-best p x [] o e = absurd cc
  find_first-best p x (y ∷ ys) o e = by (p y) refl (find_first-best p x ys o.1)
    where
      by : (b : Bool) → p y ≡ b → (find_first p ys ≡ Some x → IsBest p before x ys) → IsBest p before x (y ∷ ys)
      by true h r =
          let found = rw h at e in
          let same : y ≡ x = cc in
          let alone : (p y && before y y) ≡ false = rw (h, s.itself y) refl in
          subst (λ z. IsBest p before z (y ∷ ys)) same ((zero, omega arith, refl), h, (alone, and-nowhere p (λ z. before z y) ys o.0))
      by false h r =
          let found = rw h at e in
          let best = r found in
          let none : (p y && before y x) ≡ false = rw h refl in
          (found_within p x (y ∷ ys) e, best.1, (none, best.2))

-- ---- an item makes room for one that stands in the order as it does
module _ {X : Type 0} (before : X → X → Bool) where
  -- y stands to all items as x does
  abbrev pub StandsAs : X → X → Type 0
  StandsAs x y = (z : X) → (before z x ≡ before z y) × (before x z ≡ before y z)

  nowhere-as : (x y : X) (ys : List X) → StandsAs x y → IsNowhere (λ z. before z x) ys → IsNowhere (λ z. before z y) ys
  nowhere-as x y [] a n = tt
  nowhere-as x y (z ∷ ys) a n = (sym (a z).0 ∙ n.0, nowhere-as x y ys a n.1)

  nowhere-replace : (p : X → Bool) (w y : X) (ys : List X) → IfSome (find_first p ys) (λ x. StandsAs x y) → IsNowhere (λ z. before z w) ys → IsNowhere (λ z. before z w) (replace_first p y ys)
  nowhere-replace p w y [] a n = tt
  nowhere-replace p w y (z ∷ ys) a n = by (p z) refl (nowhere-replace p w y ys)
    where
      by : (b : Bool) → p z ≡ b → (IfSome (find_first p ys) (λ x. StandsAs x y) → IsNowhere (λ z. before z w) ys → IsNowhere (λ z. before z w) (replace_first p y ys))
          → IsNowhere (λ z. before z w) (replace_first p y (z ∷ ys))
      by true h r = let same : StandsAs z y = rw h at a in rw h (sym (same w).1 ∙ n.0, n.1)
      by false h r = let same : IfSome (find_first p ys) (λ x. StandsAs x y) = rw h at a in rw h (n.0, r same n.1)

  pub in_order-replace : (p : X → Bool) (y : X) (ys : List X) → IfSome (find_first p ys) (λ x. StandsAs x y) → IsInOrder before ys → IsInOrder before (replace_first p y ys)
  in_order-replace p y [] a o = tt
  in_order-replace p y (z ∷ ys) a o = by (p z) refl (in_order-replace p y ys)
    where
      by : (b : Bool) → p z ≡ b → (IfSome (find_first p ys) (λ x. StandsAs x y) → IsInOrder before ys → IsInOrder before (replace_first p y ys)) → IsInOrder before (replace_first p y (z ∷ ys))
      by true h r = let same : StandsAs z y = rw h at a in rw h (nowhere-as z y ys same o.0, o.1)
      by false h r = let same : IfSome (find_first p ys) (λ x. StandsAs x y) = rw h at a in rw h (nowhere-replace p z y ys same o.0, r same o.1)

-- ---- by rank and key
module _ {X : Type 0} (rank : X → ℕ) (key : X → ℤ) where
  pub IsRanked-insert : (x : X) (xs : List X) → IsRanked rank key xs → IsRanked rank key (insert_ranked rank key x xs)
  IsRanked-insert x xs = in_order-insert (precedes rank key) (precedes-strict rank key) x xs

  pub IsRanked-drop_first : (p : X → Bool) (xs : List X) → IsRanked rank key xs → IsRanked rank key (drop_first p xs)
  IsRanked-drop_first p xs = in_order-drop_first (precedes rank key) (precedes-strict rank key) p xs

  pub IsRanked-drop : (xs : List X) → IsRanked rank key xs → IsRanked rank key (drop 1 xs)
  IsRanked-drop xs = in_order-drop (precedes rank key) (precedes-strict rank key) xs

  pub best_first : (p : X → Bool) (xs : List X) (o : Option X) → IsRanked rank key xs → o ≡ find_first p xs → IfSome o (λ x. IsBest p (precedes rank key) x xs)
  best_first p xs None r e = tt
  best_first p xs (Some x) r e = find_first-best (precedes rank key) (precedes-strict rank key) p x xs r (sym e)

  alike-stands : (x y : X) → rank x ≡ rank y → key x ≡ key y → StandsAs (precedes rank key) x y
  alike-stands x y r k z = (
    (λ i. nat_lt (r i) (rank z) || ((rank z == r i) && int_lt (key z) (k i))),
    (λ i. nat_lt (rank z) (r i) || ((r i == rank z) && int_lt (k i) (key z))),
  )

  alike_found : (id : X → ℕ) (y : X) (o : Option X) → IfSome o (λ x. IsAlike rank key id x y) → IfSome o (λ x. StandsAs (precedes rank key) x y)
  alike_found id y None a = tt
  alike_found id y (Some x) a = alike-stands x y a.0 a.1

  pub IsRanked-replace : (id : X → ℕ) (n : ℕ) (y : X) (xs : List X) → IfSome (find_id id n xs) (λ x. IsAlike rank key id x y) → IsRanked rank key xs → IsRanked rank key (replace_id id n y xs)
  IsRanked-replace id n y xs a = in_order-replace (precedes rank key) (λ x. id x == n) y xs (alike_found id y (find_id id n xs) a)

-- ---- by key and id
module _ {X : Type 0} (key : X → ℤ) (id : X → ℕ) where
  pub IsKeyed-insert : (x : X) (xs : List X) → IsKeyed key id xs → IsKeyed key id (insert_keyed key id x xs)
  IsKeyed-insert x xs = in_order-insert (precedes_keyed key id) (precedes_keyed-strict key id) x xs

  pub IsKeyed-drop_first : (p : X → Bool) (xs : List X) → IsKeyed key id xs → IsKeyed key id (drop_first p xs)
  IsKeyed-drop_first p xs = in_order-drop_first (precedes_keyed key id) (precedes_keyed-strict key id) p xs
