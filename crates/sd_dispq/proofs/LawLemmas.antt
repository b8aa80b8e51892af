-- Lists in order of rank and key.
use Rattle.std.proofs.Common.{◌≡◌, ℕ, ℤ, ◌<ℤ◌, ◌==◌, nat_lt, nat_le, [], ◌∷◌, refl, arith}
use Rattle.std.proofs.lemmas.Bool.Decides.{nat_tests}
use Rattle.std.proofs.lemmas.Int.{ints}
use Rattle.sd_boxq.specs.Order.{precedes}
use Rattle.sd_boxq.proofs.InOrder.{IsRanked-insert, IsRanked-drop, IsRanked-drop_first, IsRanked-replace}
use Rattle.sd_dispq.specs.Laws.{BackIsRanked, FrontIsRanked, OrderIsKept}

module _ {X : Type 0} (rank : X → ℕ) (key : X → ℤ) where
  same_back : (x y : X) → key y <ℤ key x → precedes rank key x y ≡ nat_lt (rank y) (rank x)
  same_back x y h = grind (arith, nat_tests, ints)

  same_front : (x y : X) → key x <ℤ key y → precedes rank key x y ≡ nat_le (rank y) (rank x)
  same_front x y h = grind (arith, nat_tests, ints)

  pub back_is_ranked : BackIsRanked rank key
  back_is_ranked x [] k = refl
  back_is_ranked x (y ∷ xs) k = let same = same_back x y k.0 in grind (arith, same, back_is_ranked x xs k.1)

  pub front_is_ranked : FrontIsRanked rank key
  front_is_ranked x [] k = refl
  front_is_ranked x (y ∷ xs) k = let same = same_front x y k.0 in grind (arith, same, front_is_ranked x xs k.1)

  pub order_is_kept : (id : X → ℕ) → OrderIsKept rank key id
  order_is_kept id = record {
    inserted = λ x xs r. IsRanked-insert rank key x xs r;
    first_left = λ xs r. IsRanked-drop rank key xs r;
    left = λ n xs r. IsRanked-drop_first rank key (λ x. id x == n) xs r;
    replaced = λ n x xs a r. IsRanked-replace rank key id n x xs a r;
  }
