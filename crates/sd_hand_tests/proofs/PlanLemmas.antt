-- A plan of troubles.
use Rattle.std.proofs.Common.{◌≡◌, ◌≢◌, ℕ, zero, suc, ◌<◌, Bool, true, false, ◌==◌, List, [], ◌∷◌, length, get_or, Some, None, refl, subst, arith}
use Rattle.sd_types.specs.declared.numbers.HomeId.{HomeId}
use Rattle.sd_hand_tests.specs.declared.plan.Trouble.{Trouble}
use Rattle.sd_hand_tests.specs.declared.plan.What.TheVariants.{Moved}
use Rattle.sd_hand_tests.specs.Plan.{ArePossible, IsPossible, trouble_at}

-- where the plan says that a thread moves, it moves between two homes
pub moves_apart : (xs : List Trouble) (n : ℕ) (a b : HomeId) → ArePossible xs → trouble_at xs n ≡ Some (Moved a b) → a ≢ b
moves_apart [] n a b p e = absurd cc
moves_apart (x ∷ xs) n a b p e = by (x.call == n) refl (moves_apart xs n a b p.1)
  where
    by : (d : Bool) → (x.call == n) ≡ d → (trouble_at xs n ≡ Some (Moved a b) → a ≢ b) → a ≢ b
    by true f r = let is : x.what ≡ Moved a b = let some = rw f at e in cc in subst IsPossible is p.0
    by false f r = r (rw f at e)

-- the first troubles are not said of this call
pub not_before : (xs : List Trouble) (n i : ℕ) (d : Trouble) → ((j : ℕ) → j < i → ((get_or xs j d).call == n) ≡ false) → i < length xs → ((get_or xs i d).call == n) ≡ true → trouble_at xs n ≡ Some (get_or xs i d).what
not_before [] n i d before inside is = absurd (omega (arith, inside))
not_before (x ∷ xs) n zero d before inside is = rw is refl
not_before (x ∷ xs) n (suc i) d before inside is = let other : (x.call == n) ≡ false = before 0 (omega arith) in rw other (not_before xs n i d (λ j l. before (suc j) (omega (arith, l))) (omega (arith, inside)) is)

pub none_said : (xs : List Trouble) (n : ℕ) (d : Trouble) → ((j : ℕ) → j < length xs → ((get_or xs j d).call == n) ≡ false) → trouble_at xs n ≡ None
none_said [] n d each = refl
none_said (x ∷ xs) n d each = let other : (x.call == n) ≡ false = each 0 (omega arith) in rw other (none_said xs n d (λ j l. each (suc j) (omega (arith, l))))
