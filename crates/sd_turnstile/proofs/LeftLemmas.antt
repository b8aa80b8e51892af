-- A waiter that is not there leaves nothing behind.
use Rattle.std.proofs.Common.{◌≡◌, Bool, true, false, List, [], ◌∷◌, None, refl, ap, ◌∙◌}
use Rattle.sd_types.specs.declared.numbers.Side.{Side}
use Rattle.sd_types.specs.declared.numbers.Side.TheVariants.{Writer, Reader}
use Rattle.sd_boxq.specs.Order.{find_first, drop_first}
use Rattle.sd_turnstile.specs.Waiters.{Waiters, on_side, with_side}

pub none_dropped : {X : Type 0} (p : X → Bool) (xs : List X) → find_first p xs ≡ None → drop_first p xs ≡ xs
none_dropped p [] e = refl
none_dropped p (x ∷ xs) e = by (p x) refl (none_dropped p xs)
  where
    by : (b : Bool) → p x ≡ b → (find_first p xs ≡ None → drop_first p xs ≡ xs) → drop_first p (x ∷ xs) ≡ x ∷ xs
    by true f r = let some = rw f at e in absurd cc
    by false f r = let none = rw f at e in rw f (ap (λ ys. x ∷ ys) (r none))

side_same : {X : Type 0} (w : Waiters X) (side : Side) → with_side w side (on_side w side) ≡ w
side_same w Writer = refl
side_same w Reader = refl

pub none_leaves : {X : Type 0} (p : X → Bool) (w : Waiters X) (side : Side) → find_first p (on_side w side) ≡ None → with_side w side (drop_first p (on_side w side)) ≡ w
none_leaves p w side e = ap (with_side w side) (none_dropped p (on_side w side) e) ∙ side_same w side
