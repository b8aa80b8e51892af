-- "And", "or" and "not" of truth values.
use Rattle.std.proofs.Common.{◌≡◌, Bool, true, false, cond, not, ◌&&◌, ◌||◌, refl, sym}
use Rattle.std.proofs.lemmas.Bool.{false≢true}

pub and_left : (a b : Bool) → (a && b) ≡ true → a ≡ true
and_left true b e = refl
and_left false b e = cc

pub and_right : (a b : Bool) → (a && b) ≡ true → b ≡ true
and_right true b e = e
and_right false b e = cc

pub and_rest : (a b : Bool) → a ≡ true → (a && b) ≡ false → b ≡ false
and_rest true b e f = f
and_rest false b e f = cc

pub and_never : (b : Bool) → (b && false) ≡ false
and_never true = refl
and_never false = refl

pub and_always : (b : Bool) → (b && true) ≡ b
and_always true = refl
and_always false = refl

pub or_always : (a : Bool) → (a || true) ≡ true
or_always true = refl
or_always false = refl

pub or_never : (a : Bool) → (a || false) ≡ true → a ≡ true
or_never true e = refl
or_never false e = e

pub or_rest : (a b : Bool) → (a || b) ≡ false → b ≡ false
or_rest true b e = cc
or_rest false b e = e

pub or_or_not : (a b c : Bool) → (a || b || not c) ≡ false → (a ≡ false) × (c ≡ true)
or_or_not false false true e = (refl, refl)
or_or_not false false false e = absurd (false≢true (sym e))
or_or_not false true c e = absurd (false≢true (sym e))
or_or_not true b c e = absurd (false≢true (sym e))

pub same_truth : (a b : Bool) → (a ≡ true → b ≡ true) → (b ≡ true → a ≡ true) → a ≡ b
same_truth true b there back = sym (there refl)
same_truth false true there back = back refl
same_truth false false there back = refl

-- what is so of both is so of the one that a test chooses
pub either : {X : Type 0} (P : X → Type 0) (b : Bool) (x y : X) → P x → P y → P (cond b x y)
either P true x y p q = p
either P false x y p q = q
