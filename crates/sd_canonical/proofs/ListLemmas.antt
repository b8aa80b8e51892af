-- Lists whose elements differ, and the first place of a name.
use Rattle.std.proofs.Common.{◌≡◌, ℕ, suc, ◌+◌, ◌<◌, Bool, true, false, not, ◌&&◌, ◌||◌, ltb, leb, List, [], ◌∷◌, ◌++◌, length, map, refl, sym, ap, ◌∙◌, arith}
use Rattle.std.specs.List.{list_any, list_all, position_or_len}
use Rattle.std.proofs.lemmas.Bool.{and_parts, or_parts, not-true}
use Rattle.std.proofs.lemmas.Bool.Decides.{nat_tests}
use Rattle.std.proofs.lemmas.List.{map-append}
use Rattle.std.proofs.lemmas.List.Folds.{list_any-append, list_all-append}
use Rattle.sd_basics.proofs.Lists.{any-map}
use Rattle.sd_types.specs.Works.{same_bytes, is_distinct}

-- ---- what holds of all elements

pub all-at : {X : Type 0} (p : X → Bool) (xs ys : List X) (y : X) → list_all p (xs ++ y ∷ ys) ≡ true → p y ≡ true
all-at p xs ys y h =
    let q = and_parts (list_all p xs) (p y && list_all p ys) (sym (list_all-append p xs (y ∷ ys)) ∙ h) in
    (and_parts (p y) (list_all p ys) q.1).0

pub under : (a b : ℕ) → a < b → leb b a ≡ false
under a b h = grind (arith, nat_tests)

pub not-under : (a b : ℕ) → a ≡ b → ltb a b ≡ false
not-under a b e = grind (arith, nat_tests)

-- ---- elements that differ

pub fresh : {X : Type 0} (same : X → X → Bool) (xs ys : List X) (y : X) → is_distinct same (xs ++ y ∷ ys) ≡ true → list_any (λ x. same x y) xs ≡ false
fresh same [] ys y h = refl
fresh same (x ∷ xs) ys y h =
    let p = and_parts (not (list_any (same x) (xs ++ y ∷ ys))) (is_distinct same (xs ++ y ∷ ys)) h in
    let q = or_parts (list_any (same x) xs) (same x y || list_any (same x) ys) (sym (list_any-append (same x) xs (y ∷ ys)) ∙ not-true _ p.0) in
    let r = or_parts (same x y) (list_any (same x) ys) q.1 in
    rw (r.0) (fresh same xs ys y p.1)

pub distinct-tail : {X : Type 0} (same : X → X → Bool) (xs ys : List X) → is_distinct same (xs ++ ys) ≡ true → is_distinct same ys ≡ true
distinct-tail same [] ys h = h
distinct-tail same (x ∷ xs) ys h = distinct-tail same xs ys (and_parts (not (list_any (same x) (xs ++ ys))) (is_distinct same (xs ++ ys)) h).1

pub distinct-front : {X : Type 0} (same : X → X → Bool) (xs ys : List X) → is_distinct same (xs ++ ys) ≡ true → is_distinct same xs ≡ true
distinct-front same [] ys h = refl
distinct-front same (x ∷ xs) ys h =
    let p = and_parts (not (list_any (same x) (xs ++ ys))) (is_distinct same (xs ++ ys)) h in
    let q = or_parts (list_any (same x) xs) (list_any (same x) ys) (sym (list_any-append (same x) xs ys) ∙ not-true _ p.0) in
    rw (q.0) (distinct-front same xs ys p.1)

-- names that differ
pub named-fresh : {X : Type 0} (name : X → List ℕ) (xs ys : List X) (y : X) → is_distinct same_bytes (map name (xs ++ y ∷ ys)) ≡ true → list_any (λ x. same_bytes (name x) (name y)) xs ≡ false
named-fresh name xs ys y h =
    sym (any-map (λ n. same_bytes n (name y)) name xs) ∙ fresh same_bytes (map name xs) (map name ys) (name y) (sym (ap (is_distinct same_bytes) (map-append name xs (y ∷ ys))) ∙ h)

-- ---- places

pub none-before : {X : Type 0} (p : X → Bool) (xs : List X) → list_any p xs ≡ false → position_or_len p xs ≡ length xs
none-before p [] h = refl
none-before p (x ∷ xs) h =
    let q = or_parts (p x) (list_any p xs) h in
    let e : 1 + length xs ≡ suc (length xs) = omega arith in
    rw (q.0) (ap (λ n. 1 + n) (none-before p xs q.1) ∙ e)

pub place-seam : {X : Type 0} (p : X → Bool) (xs ys : List X) (y : X) → list_any p xs ≡ false → p y ≡ true → position_or_len p (xs ++ y ∷ ys) ≡ length xs
place-seam p [] ys y h here = rw here refl
place-seam p (x ∷ xs) ys y h here =
    let q = or_parts (p x) (list_any p xs) h in
    let e : 1 + length xs ≡ suc (length xs) = omega arith in
    rw (q.0) (ap (λ n. 1 + n) (place-seam p xs ys y q.1 here) ∙ e)

-- ---- names of a list of things
