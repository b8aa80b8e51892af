-- Where a line lies in its buffer: the digits of its number end at a fixed place, and the rest follows.
use Rattle.std.proofs.Common.{◌≡◌, ℕ, ◌+◌, ◌-◌, ◌≤◌, List, ◌++◌, length, take, drop, min, sym, ap, ◌∙◌, arith, refl, append_assoc, length-append, length-take, length-take-le}
use Rattle.std.specs.Prelude.{slice_range}
use Rattle.std.proofs.lemmas.List.{drop-take, take-append-le, take-take, take_all, drop-append-le}

-- a text that stands from `at` on ends at `to`, which is not before `at`
pub ends_behind : (mid new rest : List ℕ) (at to : ℕ) → at ≤ length mid → take to new ≡ take at mid ++ rest → at ≤ to
ends_behind mid new rest at to inside is =
    let long : length (take to new) ≡ at + length rest = ap length is ∙ length-append (take at mid) rest ∙ ap (λ n. n + length rest) (length-take-le at mid inside) in
    let bound : length (take to new) ≡ min to (length new) = length-take to new in
    omega (arith, long, bound)

-- what is left of a prefix behind its beginning
pub rest_of : (xs : List ℕ) (from to : ℕ) → from ≤ to → drop from (take to xs) ≡ take (to - from) (drop from xs)
rest_of xs from to le =
    let e : to ≡ from + (to - from) = omega arith in
    ap (λ n. drop from (take n xs)) e ∙ drop-take from (to - from) xs

-- The digits of a number begin at `from` and end at `at`; a text was put from there on, which ends at `to`.
pub line_between : (mid new number rest : List ℕ) (from at to : ℕ) → from + length number ≡ at → at ≤ length mid → drop from (take at mid) ≡ number
    → take to new ≡ take at mid ++ rest → slice_range new from to ≡ number ++ rest
line_between mid new number rest from at to sum inside digits is =
    let behind = ends_behind mid new rest at to inside is in
    let long = length-take-le at mid inside in
    sym (rest_of new from to (omega (arith, sum, behind)))
    ∙ ap (λ (xs : List ℕ). drop from xs) is
    ∙ drop-append-le from (take at mid) rest (omega (arith, sum, long))
    ∙ ap (λ (xs : List ℕ). xs ++ rest) digits

-- what stands before `at` is as it was where a text was put from there on
pub kept_before : (mid new rest : List ℕ) (at to : ℕ) → at ≤ length mid → take to new ≡ take at mid ++ rest → take at new ≡ take at mid
kept_before mid new rest at to inside is =
    let behind = ends_behind mid new rest at to inside is in
    let long = length-take-le at mid inside in
    sym (take-take at to new behind) ∙ ap (λ (xs : List ℕ). take at xs) is ∙ take-append-le at (take at mid) rest (omega (arith, long)) ∙ take_all at (take at mid) (omega (arith, long))

-- texts one after another, of which the first stands before all others
pub first_before : (first a b c d e f : List ℕ) → first ++ (a ++ b ++ c ++ d ++ e ++ f) ≡ first ++ a ++ b ++ c ++ d ++ e ++ f
first_before first a b c d e f = simp append_assoc refl
