-- The longest of spans, and sums as far as 64 bits go.
use Rattle.std.proofs.Common.{◌≡◌, ℕ, zero, suc, ◌≤◌, Bool, true, false, List, [], ◌∷◌, length, Option, Some, None, refl, sym, ap, subst, ◌∙◌, arith}
use Rattle.std.specs.Prelude.{nat_lt, max, if◌then◌else◌}
use Rattle.std.specs.List.{All, Contains}
use Rattle.std.proofs.lemmas.Bool.Decides.{nat_tests}
use Rattle.sd_stretches.specs.declared.rows.Level.{Level}
use Rattle.sd_statistics.specs.declared.spans.Span.{Span}
use Rattle.sd_statistics.specs.Inherited.{greatest_inherited, inherited_priority}
use Rattle.sd_statistics.specs.Spans.{longer, longest, ticks_of}

pub longer_none : (x : Option Span) → longer x None ≡ x
longer_none None = refl
longer_none (Some x) = refl

-- a test that two others decide
longer_by : (x y z : Span) (p q r : Bool) → nat_lt (ticks_of x) (ticks_of y) ≡ p → nat_lt (ticks_of y) (ticks_of z) ≡ q → nat_lt (ticks_of x) (ticks_of z) ≡ r
    → longer (if p then Some y else Some x) (Some z) ≡ longer (Some x) (if q then Some z else Some y)
longer_by x y z true true true xy yz xz = ap (λ b. if b then Some z else Some y) yz ∙ sym (ap (λ b. if b then Some z else Some x) xz)
longer_by x y z true true false xy yz xz = absurd (grind (arith, nat_tests))
longer_by x y z true false r xy yz xz = ap (λ b. if b then Some z else Some y) yz ∙ sym (ap (λ b. if b then Some y else Some x) xy)
longer_by x y z false true r xy yz xz = refl
longer_by x y z false false true xy yz xz = absurd (grind (arith, nat_tests))
longer_by x y z false false false xy yz xz = ap (λ b. if b then Some z else Some x) xz ∙ sym (ap (λ b. if b then Some y else Some x) xy)

pub longer_assoc : (a : Option Span) (x : Span) (b : Option Span) → longer (longer a (Some x)) b ≡ longer a (longer (Some x) b)
longer_assoc None x b = refl
longer_assoc (Some a) x None = longer_none (if nat_lt (ticks_of a) (ticks_of x) then Some x else Some a)
longer_assoc (Some a) x (Some b) = longer_by a x b (nat_lt (ticks_of a) (ticks_of x)) (nat_lt (ticks_of x) (ticks_of b)) (nat_lt (ticks_of a) (ticks_of b)) refl refl refl

-- one span more is looked at
pub longest_more : (best new all : Option Span) (x : Span) (left rest : List Span) → left ≡ x ∷ rest → longer best (longest left) ≡ all → new ≡ longer best (Some x)
    → longer new (longest rest) ≡ all
unfolding longest
longest_more best new all x left rest now so_far made =
    ap (λ n. longer n (longest rest)) made ∙ longer_assoc best x (longest rest) ∙ ap (λ xs. longer best (longest xs)) (sym now) ∙ so_far

-- none is left
pub longest_all : (best all : Option Span) (left : List Span) → length left ≡ 0 → longer best (longest left) ≡ all → best ≡ all
unfolding longest
longest_all best all [] none so_far = sym (longer_none best) ∙ so_far
longest_all best all (x ∷ xs) none so_far = absurd (omega (arith, none))

-- The longest is one of them, and none is longer.

never_none : (b : Bool) (x y : Span) → (if b then Some y else Some x) ≡ None → ⊥
never_none true x y is = cc
never_none false x y is = cc

longer_some : (x : Span) (o : Option Span) → longer (Some x) o ≡ None → ⊥
longer_some x None is = cc
longer_some x (Some y) is = never_none (nat_lt (ticks_of x) (ticks_of y)) x y is

pub longest_none : (xs : List Span) → longest xs ≡ None → xs ≡ []
unfolding longest
longest_none [] is = refl
longest_none (x ∷ xs) is = absurd (longer_some x (longest xs) is)

contains_more : (x y : Span) (xs : List Span) → Contains xs y → Contains (x ∷ xs) y
contains_more x y xs (k, inside, at) = (suc k, omega (arith, inside), at)

there_if : (b : Bool) (x y z : Span) (xs : List Span) → Contains xs z → (if b then Some z else Some x) ≡ Some y → Contains (x ∷ xs) y
there_if true x y z xs there is = let same : z ≡ y = cc in contains_more x y xs (subst (Contains xs) same there)
there_if false x y z xs there is = let same : x ≡ y = cc in (0, omega arith, same)

there_by : (x y : Span) (xs : List Span) (o : Option Span) → ((z : Span) → o ≡ Some z → Contains xs z) → longer (Some x) o ≡ Some y → Contains (x ∷ xs) y
there_by x y xs None rest is = let same : x ≡ y = cc in (0, omega arith, same)
there_by x y xs (Some z) rest is = there_if (nat_lt (ticks_of x) (ticks_of z)) x y z xs (rest z refl) is

pub longest_there : (xs : List Span) (y : Span) → longest xs ≡ Some y → Contains xs y
unfolding longest
longest_there [] y is = cc
longest_there (x ∷ xs) y is = there_by x y xs (longest xs) (λ z so. longest_there xs z so) is

bound_if : (b : Bool) (x y z : Span) → nat_lt (ticks_of x) (ticks_of z) ≡ b → (if b then Some z else Some x) ≡ Some y
    → (ticks_of x ≤ ticks_of y) × (ticks_of z ≤ ticks_of y)
bound_if true x y z less is =
    let same : z ≡ y = cc in
    let below : ticks_of x ≤ ticks_of z = grind (arith, nat_tests) in
    subst (λ v. (ticks_of x ≤ ticks_of v) × (ticks_of z ≤ ticks_of v)) same (below, omega arith)
bound_if false x y z not is =
    let same : x ≡ y = cc in
    let below : ticks_of z ≤ ticks_of x = grind (arith, nat_tests) in
    subst (λ v. (ticks_of x ≤ ticks_of v) × (ticks_of z ≤ ticks_of v)) same (omega arith, below)

first_below : (x y : Span) (o : Option Span) → longer (Some x) o ≡ Some y → ticks_of x ≤ ticks_of y
first_below x y None is = let same : x ≡ y = cc in subst (λ v. ticks_of x ≤ ticks_of v) same (omega arith)
first_below x y (Some z) is = (bound_if (nat_lt (ticks_of x) (ticks_of z)) x y z refl is).0

rest_below : (xs : List Span) (x y : Span) (o : Option Span) → longest xs ≡ o → longer (Some x) o ≡ Some y
    → ((z : Span) → longest xs ≡ Some z → All (λ v. ticks_of v ≤ ticks_of z) xs) → All (λ v. ticks_of v ≤ ticks_of y) xs
rest_below xs x y None none is rest = λ k d inside. let empty = ap length (longest_none xs none) in absurd (omega (arith, inside, empty))
rest_below xs x y (Some z) some is rest = λ k d inside.
    let below = rest z some k d inside in
    let most = (bound_if (nat_lt (ticks_of x) (ticks_of z)) x y z refl is).1 in
    omega (arith, below, most)

all_cons : (P : Span → Type 0) (x : Span) (xs : List Span) → P x → All P xs → All P (x ∷ xs)
all_cons P x xs first rest zero d inside = first
all_cons P x xs first rest (suc k) d inside = rest k d (omega (arith, inside))

pub longest_greatest : (xs : List Span) (y : Span) → longest xs ≡ Some y → All (λ x. ticks_of x ≤ ticks_of y) xs
unfolding longest
longest_greatest [] y is = λ k d inside. absurd (omega (arith, inside))
longest_greatest (x ∷ xs) y is =
    all_cons (λ v. ticks_of v ≤ ticks_of y) x xs (first_below x y (longest xs) is) (rest_below xs x y (longest xs) refl is (λ z so. longest_greatest xs z so))

-- one level more is looked at
pub greatest_more : (greatest new all priority : ℕ) (x : Level) (left rest : List Level) → left ≡ x ∷ rest → max greatest (greatest_inherited left) ≡ all
    → priority ≡ inherited_priority x → new ≡ max greatest priority → max new (greatest_inherited rest) ≡ all
unfolding greatest_inherited
greatest_more greatest new all priority x left rest now so_far is made =
    let e : greatest_inherited left ≡ max (inherited_priority x) (greatest_inherited rest) = ap greatest_inherited now in
    omega (arith, e, so_far, is, made)

-- none is left
pub greatest_all : (greatest all : ℕ) (left : List Level) → length left ≡ 0 → max greatest (greatest_inherited left) ≡ all → greatest ≡ all
unfolding greatest_inherited
greatest_all greatest all [] none so_far = omega (arith, so_far)
greatest_all greatest all (x ∷ xs) none so_far = absurd (omega (arith, none))
