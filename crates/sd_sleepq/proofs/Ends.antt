-- A place behind which no item stands, as items come and leave.
use Rattle.std.proofs.Common.{◌≡◌, ℕ, ℤ, Bool, true, false, List, [], ◌∷◌, ◌++◌, refl, ap, arith}
use Rattle.std.proofs.lemmas.Bool.Decides.{nat_tests}
use Rattle.std.proofs.lemmas.Int.{ints}
use Rattle.sd_sleepq.specs.Ends.{is_at_end, is_behind, EndsBy}
use Rattle.sd_boxq.specs.Order.{drop_first, insert_before, insert_ranked, precedes}

module _ {X : Type 0} (rank : X → ℕ) (key : X → ℤ) where
  passed : (r : ℕ) (k : ℤ) (x y : X) → is_at_end r k (rank x) (key x) ≡ true → is_behind rank key r k y ≡ false → precedes rank key x y ≡ false
  passed r k x y e b = grind (arith, nat_tests, ints)

  itself : (x : X) → precedes rank key x x ≡ false
  itself x = grind (arith, nat_tests, ints)

  before_end : (r : ℕ) (k : ℤ) (x : X) → is_at_end r k (rank x) (key x) ≡ false → is_behind rank key r k x ≡ false
  before_end r k x e = grind (arith, nat_tests, ints)

  -- an item that does not precede the place comes behind all
  pub at_end : (r : ℕ) (k : ℤ) (x : X) (xs : List X) → is_at_end r k (rank x) (key x) ≡ true → EndsBy rank key r k xs → xs ++ (x ∷ []) ≡ insert_ranked rank key x xs
  at_end r k x [] e n = refl
  at_end r k x (y ∷ xs) e n =
      let not : precedes rank key x y ≡ false = passed r k x y e n.0 in
      rw not (ap (λ zs. y ∷ zs) (at_end r k x xs e n.1))

  -- and then none stands behind it
  pub ends_there : (r : ℕ) (k : ℤ) (x : X) (xs : List X) → is_at_end r k (rank x) (key x) ≡ true → EndsBy rank key r k xs → EndsBy rank key (rank x) (key x) (xs ++ (x ∷ []))
  ends_there r k x [] e n = (itself x, tt)
  ends_there r k x (y ∷ xs) e n = (passed r k x y e n.0, ends_there r k x xs e n.1)

  inserted : (r : ℕ) (k : ℤ) (p : X → Bool) (x : X) (xs : List X) → is_behind rank key r k x ≡ false → EndsBy rank key r k xs → EndsBy rank key r k (insert_before p x xs)
  inserted r k p x [] e n = (e, tt)
  inserted r k p x (y ∷ xs) e n = by (p y) refl (inserted r k p x xs e n.1)
    where
      by : (b : Bool) → p y ≡ b → EndsBy rank key r k (insert_before p x xs) → EndsBy rank key r k (insert_before p x (y ∷ xs))
      by true h rest = rw h (e, n)
      by false h rest = rw h (n.0, rest)

  -- an item that precedes it comes
  pub ends_as_before : (r : ℕ) (k : ℤ) (x : X) (xs : List X) → is_at_end r k (rank x) (key x) ≡ false → EndsBy rank key r k xs → EndsBy rank key r k (insert_ranked rank key x xs)
  ends_as_before r k x xs e n = inserted r k (precedes rank key x) x xs (before_end r k x e) n

  -- one has left
  pub ends_once_left : (r : ℕ) (k : ℤ) (p : X → Bool) (xs : List X) → EndsBy rank key r k xs → EndsBy rank key r k (drop_first p xs)
  ends_once_left r k p [] n = tt
  ends_once_left r k p (x ∷ xs) n = by (p x) refl (ends_once_left r k p xs n.1)
    where
      by : (b : Bool) → p x ≡ b → EndsBy rank key r k (drop_first p xs) → EndsBy rank key r k (drop_first p (x ∷ xs))
      by true h rest = rw h n.1
      by false h rest = rw h (n.0, rest)
