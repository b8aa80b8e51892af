-- Lists with and without an item.
use Rattle.std.proofs.Common.{◌≡◌, ◌≢◌, ℕ, ◌+◌, ℤ, pos, negsuc, ◌≤◌, Bool, true, false, ◌==◌, List, [], ◌∷◌, Some, None, refl, sym, ap, ◌∙◌, subst, arith}
use Rattle.std.proofs.lemmas.Bool.{eqb-true, eqb-false, eq-eqb, ne_eqb}
use Rattle.std.proofs.lemmas.Int.{ints}
use Rattle.sd_basics.proofs.Numbers.{same_itself}
use Rattle.sd_boxq.specs.Order.{insert_before, insert_ranked, drop_first, find_first, find_id, drop_id, precedes, IsNowhere}
use Rattle.sd_boxq.proofs.InOrder.{IsRanked-insert, IsRanked-drop_first}
use Rattle.sd_homes.specs.Lists.{IdsDiffer, HasNoKey, KeysOfItemsDiffer, IsKeyAfter, AreKeysAfter, IsQueue}

module _ {X : Type 0} (id : X → ℕ) where
  pub find-dropped : (t : ℕ) (xs : List X) → IdsDiffer id xs → find_id id t (drop_id id t xs) ≡ None
  find-dropped t [] d = refl
  find-dropped t (x ∷ xs) d = by (id x == t) refl (find-dropped t xs d.1)
    where
      by : (b : Bool) → (id x == t) ≡ b → find_id id t (drop_id id t xs) ≡ None → find_id id t (drop_id id t (x ∷ xs)) ≡ None
      by true e r = let same = eqb-true (id x) t e in rw e (ap (λ k. find_id id k xs) (sym same) ∙ d.0)
      by false e r = rw (e, e) r

  pub find-dropped_other : (u t : ℕ) → (u ≡ t → ⊥) → (xs : List X) → find_id id u (drop_id id t xs) ≡ find_id id u xs
  find-dropped_other u t n [] = refl
  find-dropped_other u t n (x ∷ xs) = by (id x == t) refl (find-dropped_other u t n xs)
    where
      by : (b : Bool) → (id x == t) ≡ b → find_id id u (drop_id id t xs) ≡ find_id id u xs → find_id id u (drop_id id t (x ∷ xs)) ≡ find_id id u (x ∷ xs)
      by true e r = let other = ne_eqb (id x) u (λ f. n (sym f ∙ eqb-true (id x) t e)) in rw (e, other) refl
      by false e r = rw e (grind (arith, r))

  pub differ-dropped : (t : ℕ) (xs : List X) → IdsDiffer id xs → IdsDiffer id (drop_id id t xs)
  differ-dropped t [] d = tt
  differ-dropped t (x ∷ xs) d = by (id x == t) refl (differ-dropped t xs d.1)
    where
      by : (b : Bool) → (id x == t) ≡ b → IdsDiffer id (drop_id id t xs) → IdsDiffer id (drop_id id t (x ∷ xs))
      by true e r = rw e d.1
      by false e r = rw e (find-dropped_other (id x) t (eqb-false (id x) t e) xs ∙ d.0, r)

  pub find-inserted : (p : X → Bool) (x : X) (xs : List X) → find_id id (id x) xs ≡ None → find_id id (id x) (insert_before p x xs) ≡ Some x
  find-inserted p x [] e = rw (same_itself (id x)) refl
  find-inserted p x (y ∷ ys) e = by (p y) (id y == id x) refl refl (find-inserted p x ys)
    where
      by : (b c : Bool) → p y ≡ b → (id y == id x) ≡ c → (find_id id (id x) ys ≡ None → find_id id (id x) (insert_before p x ys) ≡ Some x)
          → find_id id (id x) (insert_before p x (y ∷ ys)) ≡ Some x
      by true c h f r = rw (h, same_itself (id x)) refl
      by false true h f r = let some = rw f at e in absurd cc
      by false false h f r = let none = rw f at e in rw (h, f) (r none)

  pub find-inserted_other : (p : X → Bool) (u : ℕ) (x : X) → (id x ≡ u → ⊥) → (xs : List X) → find_id id u (insert_before p x xs) ≡ find_id id u xs
  find-inserted_other p u x n [] = rw (ne_eqb (id x) u n) refl
  find-inserted_other p u x n (y ∷ ys) = by (p y) refl (find-inserted_other p u x n ys)
    where
      by : (b : Bool) → p y ≡ b → find_id id u (insert_before p x ys) ≡ find_id id u ys → find_id id u (insert_before p x (y ∷ ys)) ≡ find_id id u (y ∷ ys)
      by true h r = rw (h, ne_eqb (id x) u n) refl
      by false h r = rw h (grind (arith, r))

  pub differ-inserted : (p : X → Bool) (x : X) (xs : List X) → find_id id (id x) xs ≡ None → IdsDiffer id xs → IdsDiffer id (insert_before p x xs)
  differ-inserted p x [] e d = (refl, tt)
  differ-inserted p x (y ∷ ys) e d = by (p y) (id y == id x) refl refl (differ-inserted p x ys)
    where
      by : (b c : Bool) → p y ≡ b → (id y == id x) ≡ c → (find_id id (id x) ys ≡ None → IdsDiffer id ys → IdsDiffer id (insert_before p x ys))
          → IdsDiffer id (insert_before p x (y ∷ ys))
      by true c h f r = rw h (e, d)
      by false true h f r = let some = rw f at e in absurd cc
      by false false h f r =
          let none = rw f at e in
          rw h (find-inserted_other p (id y) x (λ g. eqb-false (id y) (id x) f (sym g)) ys ∙ d.0, r none d.1)

module _ {X : Type 0} (key : X → ℤ) where
  no_key-dropped : (k : ℤ) (p : X → Bool) (xs : List X) → HasNoKey key k xs → HasNoKey key k (drop_first p xs)
  no_key-dropped k p [] h = tt
  no_key-dropped k p (x ∷ xs) h = by (p x) refl (no_key-dropped k p xs h.1)
    where
      by : (b : Bool) → p x ≡ b → HasNoKey key k (drop_first p xs) → HasNoKey key k (drop_first p (x ∷ xs))
      by true e r = rw e h.1
      by false e r = rw e (h.0, r)

  pub keys-dropped : (p : X → Bool) (xs : List X) → KeysOfItemsDiffer key xs → KeysOfItemsDiffer key (drop_first p xs)
  keys-dropped p [] d = tt
  keys-dropped p (x ∷ xs) d = by (p x) refl (keys-dropped p xs d.1)
    where
      by : (b : Bool) → p x ≡ b → KeysOfItemsDiffer key (drop_first p xs) → KeysOfItemsDiffer key (drop_first p (x ∷ xs))
      by true e r = rw e d.1
      by false e r = rw e (no_key-dropped (key x) p xs d.0, r)

  pub after-dropped : (n : ℕ) (p : X → Bool) (xs : List X) → AreKeysAfter key n xs → AreKeysAfter key n (drop_first p xs)
  after-dropped n p [] d = tt
  after-dropped n p (x ∷ xs) d = by (p x) refl (after-dropped n p xs d.1)
    where
      by : (b : Bool) → p x ≡ b → AreKeysAfter key n (drop_first p xs) → AreKeysAfter key n (drop_first p (x ∷ xs))
      by true e r = rw e d.1
      by false e r = rw e (d.0, r)

  no_key-inserted : (k : ℤ) (p : X → Bool) (x : X) (xs : List X) → key x ≢ k → HasNoKey key k xs → HasNoKey key k (insert_before p x xs)
  no_key-inserted k p x [] n h = (n, tt)
  no_key-inserted k p x (y ∷ ys) n h = by (p y) refl (no_key-inserted k p x ys n h.1)
    where
      by : (b : Bool) → p y ≡ b → HasNoKey key k (insert_before p x ys) → HasNoKey key k (insert_before p x (y ∷ ys))
      by true e r = rw e (n, h)
      by false e r = rw e (h.0, r)

  pub keys-inserted : (p : X → Bool) (x : X) (xs : List X) → HasNoKey key (key x) xs → KeysOfItemsDiffer key xs → KeysOfItemsDiffer key (insert_before p x xs)
  keys-inserted p x [] n d = (tt, tt)
  keys-inserted p x (y ∷ ys) n d = by (p y) refl (keys-inserted p x ys n.1 d.1)
    where
      by : (b : Bool) → p y ≡ b → KeysOfItemsDiffer key (insert_before p x ys) → KeysOfItemsDiffer key (insert_before p x (y ∷ ys))
      by true e r = rw e (n, d)
      by false e r = rw e (no_key-inserted (key y) p x ys (λ f. n.0 (sym f)) d.0, r)

  pub after-inserted : (n : ℕ) (p : X → Bool) (x : X) (xs : List X) → IsKeyAfter n (key x) → AreKeysAfter key n xs → AreKeysAfter key n (insert_before p x xs)
  after-inserted n p x [] a d = (a, tt)
  after-inserted n p x (y ∷ ys) a d = by (p y) refl (after-inserted n p x ys a d.1)
    where
      by : (b : Bool) → p y ≡ b → AreKeysAfter key n (insert_before p x ys) → AreKeysAfter key n (insert_before p x (y ∷ ys))
      by true e r = rw e (a, d)
      by false e r = rw e (d.0, r)

pub key_more : (n m : ℕ) (k : ℤ) → n ≤ m → IsKeyAfter n k → IsKeyAfter m k
key_more n m k h a = record { least = omega (arith, ints, a.least); below = omega (arith, ints, a.below) }

module _ {X : Type 0} (key : X → ℤ) where
  pub after-more : (n m : ℕ) (xs : List X) → n ≤ m → AreKeysAfter key n xs → AreKeysAfter key m xs
  after-more n m [] h a = tt
  after-more n m (x ∷ xs) h a = (key_more n m (key x) h a.0, after-more n m xs h a.1)

  -- a key of the next entry is none of those that there are
  pub back_is_new : (n : ℕ) (xs : List X) → AreKeysAfter key n xs → HasNoKey key (pos (4096 + n)) xs
  back_is_new n [] a = tt
  back_is_new n (x ∷ xs) a = (λ e. let b = a.0.below in absurd (omega (arith, ints, e)), back_is_new n xs a.1)

  pub front_is_new : (n : ℕ) (xs : List X) → AreKeysAfter key n xs → HasNoKey key (negsuc n) xs
  front_is_new n [] a = tt
  front_is_new n (x ∷ xs) a = (λ e. let b = a.0.least in absurd (omega (arith, ints, e)), front_is_new n xs a.1)

module _ {X : Type 0} (rank : X → ℕ) (key : X → ℤ) where
  pub queue-dropped : (n : ℕ) (p : X → Bool) (xs : List X) → IsQueue rank key n xs → IsQueue rank key n (drop_first p xs)
  queue-dropped n p xs q = record {
    ranked = IsRanked-drop_first rank key p xs q.ranked;
    apart = keys-dropped key p xs q.apart;
    after = after-dropped key n p xs q.after;
  }

  pub queue-inserted : (n m : ℕ) (x : X) (xs : List X) → n ≤ m → IsKeyAfter m (key x) → HasNoKey key (key x) xs → IsQueue rank key n xs → IsQueue rank key m (insert_ranked rank key x xs)
  queue-inserted n m x xs h a new q = record {
    ranked = IsRanked-insert rank key x xs q.ranked;
    apart = keys-inserted key (precedes rank key x) x xs new q.apart;
    after = after-inserted key m (precedes rank key x) x xs a (after-more key n m xs h q.after);
  }

  pub queue-more : (n m : ℕ) (xs : List X) → n ≤ m → IsQueue rank key n xs → IsQueue rank key m xs
  queue-more n m xs h q = record { ranked = q.ranked; apart = q.apart; after = after-more key n m xs h q.after }

-- the item that is found first
module _ {X : Type 0} (id : X → ℕ) where
  pub nowhere_found : (q : X → Bool) (t : ℕ) (r : X) (xs : List X) → IsNowhere q xs → find_id id t xs ≡ Some r → q r ≡ false
  nowhere_found q t r [] h e = absurd cc
  nowhere_found q t r (x ∷ xs) h e = by (id x == t) refl (nowhere_found q t r xs h.1)
    where
      by : (b : Bool) → (id x == t) ≡ b → (find_id id t xs ≡ Some r → q r ≡ false) → q r ≡ false
      by true f g = let is = rw f at e in let same : x ≡ r = cc in ap q (sym same) ∙ h.0
      by false f g = g (rw f at e)

  pub found_id : (t : ℕ) (r : X) (xs : List X) → find_id id t xs ≡ Some r → id r ≡ t
  found_id t r [] e = absurd cc
  found_id t r (x ∷ xs) e = by (id x == t) refl (found_id t r xs)
    where
      by : (b : Bool) → (id x == t) ≡ b → (find_id id t xs ≡ Some r → id r ≡ t) → id r ≡ t
      by true f g = let is = rw f at e in let same : x ≡ r = cc in ap id (sym same) ∙ eqb-true (id x) t f
      by false f g = g (rw f at e)

  found_key : (key : X → ℤ) (k : ℤ) (t : ℕ) (r : X) (xs : List X) → HasNoKey key k xs → find_id id t xs ≡ Some r → key r ≢ k
  found_key key k t r [] h e = absurd cc
  found_key key k t r (x ∷ xs) h e = by (id x == t) refl (found_key key k t r xs h.1)
    where
      by : (b : Bool) → (id x == t) ≡ b → (find_id id t xs ≡ Some r → key r ≢ k) → key r ≢ k
      by true f g = let is = rw f at e in let same : x ≡ r = cc in λ a. h.0 (ap key same ∙ a)
      by false f g = g (rw f at e)

  -- of two items with different ids
  pub found_apart : (key : X → ℤ) (t u : ℕ) (r q : X) (xs : List X) → KeysOfItemsDiffer key xs → find_id id t xs ≡ Some r → find_id id u xs ≡ Some q → (t ≡ u → ⊥) → key r ≢ key q
  found_apart key t u r q [] d e f n = absurd cc
  found_apart key t u r q (x ∷ xs) d e f n = by (id x == t) (id x == u) refl refl (found_apart key t u r q xs d.1)
    where
      by : (a b : Bool) → (id x == t) ≡ a → (id x == u) ≡ b
          → (find_id id t xs ≡ Some r → find_id id u xs ≡ Some q → (t ≡ u → ⊥) → key r ≢ key q) → key r ≢ key q
      by true true a b g = absurd (n (sym (eqb-true (id x) t a) ∙ eqb-true (id x) u b))
      by true false a b g = let is = rw a at e in let same : x ≡ r = cc in let other = rw b at f in λ w. found_key key (key x) u q xs d.0 other (sym w ∙ ap key (sym same))
      by false true a b g = let is = rw b at f in let same : x ≡ q = cc in let other = rw a at e in λ w. found_key key (key x) t r xs d.0 other (w ∙ ap key (sym same))
      by false false a b g = g (rw a at e) (rw b at f) n

  pub found_after : (key : X → ℤ) (n t : ℕ) (r : X) (xs : List X) → AreKeysAfter key n xs → find_id id t xs ≡ Some r → IsKeyAfter n (key r)
  found_after key n t r [] a e = absurd cc
  found_after key n t r (x ∷ xs) a e = by (id x == t) refl (found_after key n t r xs a.1)
    where
      by : (b : Bool) → (id x == t) ≡ b → (find_id id t xs ≡ Some r → IsKeyAfter n (key r)) → IsKeyAfter n (key r)
      by true f g = let is = rw f at e in let same : x ≡ r = cc in subst (λ z. IsKeyAfter n (key z)) same a.0
      by false f g = g (rw f at e)

  -- a key that no item has that can be found
  pub no_key_from : (key : X → ℤ) (k : ℤ) (xs : List X) → IdsDiffer id xs → ((t : ℕ) (r : X) → find_id id t xs ≡ Some r → key r ≢ k) → HasNoKey key k xs
  no_key_from key k [] d h = tt
  no_key_from key k (x ∷ xs) d h =
      (h (id x) x (rw (same_itself (id x)) refl), no_key_from key k xs d.1 (λ t r e. h t r (by t r e (id x == t) refl)))
    where
      by : (t : ℕ) (r : X) → find_id id t xs ≡ Some r → (b : Bool) → (id x == t) ≡ b → find_id id t (x ∷ xs) ≡ Some r
      by t r e true f = let none = d.0 in let same = eqb-true (id x) t f in let is : find_id id t xs ≡ None = ap (λ k. find_id id k xs) (sym same) ∙ none in absurd cc
      by t r e false f = rw f e

  -- the first that passes can be found, and nothing that passes stands where none is first
  pub first_found : (p : X → Bool) (r : X) (xs : List X) → IdsDiffer id xs → find_first p xs ≡ Some r → find_id id (id r) xs ≡ Some r
  first_found p r [] d e = absurd cc
  first_found p r (x ∷ xs) d e = by (p x) refl (first_found p r xs d.1)
    where
      behind : (b : Bool) → (id x == id r) ≡ b → find_id id (id r) xs ≡ Some r → find_id id (id r) (x ∷ xs) ≡ Some r
      behind true f g = let none = d.0 in let same = eqb-true (id x) (id r) f in let is : find_id id (id r) xs ≡ None = ap (λ k. find_id id k xs) (sym same) ∙ none in absurd cc
      behind false f g = rw f g

      by : (b : Bool) → p x ≡ b → (find_first p xs ≡ Some r → find_id id (id r) xs ≡ Some r) → find_id id (id r) (x ∷ xs) ≡ Some r
      by true f g = let is = rw f at e in let same : x ≡ r = cc in rw (ap (λ y. id y == id r) same ∙ same_itself (id r)) is
      by false f g = behind (id x == id r) refl (g (rw f at e))

  pub first_passes : (p : X → Bool) (r : X) (xs : List X) → find_first p xs ≡ Some r → p r ≡ true
  first_passes p r [] e = absurd cc
  first_passes p r (x ∷ xs) e = by (p x) refl (first_passes p r xs)
    where
      by : (b : Bool) → p x ≡ b → (find_first p xs ≡ Some r → p r ≡ true) → p r ≡ true
      by true f g = let is = rw f at e in let same : x ≡ r = cc in ap p (sym same) ∙ f
      by false f g = g (rw f at e)

  pub none_passes : (p : X → Bool) (xs : List X) → find_first p xs ≡ None → IsNowhere p xs
  none_passes p [] e = tt
  none_passes p (x ∷ xs) e = by (p x) refl (none_passes p xs)
    where
      by : (b : Bool) → p x ≡ b → (find_first p xs ≡ None → IsNowhere p xs) → IsNowhere p (x ∷ xs)
      by true f g = let is = rw f at e in absurd cc
      by false f g = (f, g (rw f at e))
