-- Lists whose elements differ, and tests.
use Rattle.std.proofs.Common.{◌≡◌, ℕ, ◌≤◌, Bool, true, false, not, ◌&&◌, ◌||◌, ltb, leb, List, [], ◌∷◌, ◌++◌, length, map, Option, Some, None, refl, sym, ap, ◌∙◌, arith, append-nil, append_assoc}
use Rattle.std.specs.Prelude.{nat_eq}
use Rattle.std.specs.List.{list_any, list_all, slice_get}
use Rattle.std.proofs.lemmas.Bool.{false≢true, and_parts, or_parts, not-true, not-false}
use Rattle.std.proofs.lemmas.Bool.Decides.{nat_tests}
use Rattle.std.proofs.lemmas.List.{map-append}
use Rattle.std.proofs.lemmas.List.Folds.{list_any-append}
use Rattle.sd_types.specs.declared.numbers.CpuId.{CpuId}
use Rattle.sd_types.specs.Partitions.{cpu_of_number}
use Rattle.sd_types.specs.Works.{same_bytes, same_cpu, is_distinct}
use Rattle.sd_lines.specs.Words.{Word}
use Rattle.sd_declare.specs.Declarations.{place}
use Rattle.sd_declare.proofs.PlaceLemmas.{any_kept, none-placed}
use Rattle.sd_workload.specs.Sound.{AreNamed}

pub lt-more : (a b c : ℕ) → ltb a b ≡ true → b ≤ c → ltb a c ≡ true
lt-more a b c h l = grind (arith, nat_tests)

pub le-more : (a b c : ℕ) → leb a b ≡ true → b ≤ c → leb a c ≡ true
le-more a b c h l = grind (arith, nat_tests)

any-push : {X : Type 0} (p : X → Bool) (y : X) (xs : List X) → list_any p xs ≡ false → p y ≡ false → list_any p (xs ++ y ∷ []) ≡ false
any-push p y xs none here = list_any-append p xs (y ∷ []) ∙ rw (none, here) refl

pub distinct-push : {X : Type 0} (same : X → X → Bool) (xs : List X) (y : X) → is_distinct same xs ≡ true → list_any (λ x. same x y) xs ≡ false
    → is_distinct same (xs ++ y ∷ []) ≡ true
distinct-push same [] y h none = refl
distinct-push same (x ∷ xs) y h none =
    let p = and_parts (not (list_any (same x) xs)) (is_distinct same xs) h in
    let q = or_parts (same x y) (list_any (λ z. same z y) xs) none in
    rw (any-push (same x) y xs (not-true _ p.0) q.0) (distinct-push same xs y p.1 q.1)

pub named-push : {X : Type 0} (xs : List (Word × X)) (name : Word) (x : X) → AreNamed xs → ltb (place name xs) (length xs) ≡ false → AreNamed (xs ++ (name, x) ∷ [])
named-push {X} xs name x h new =
    ap (is_distinct same_bytes) (map-append (λ (y : Word × X). y.0) xs ((name, x) ∷ []))
    ∙ distinct-push same_bytes (map (λ (y : Word × X). y.0) xs) name h
    (sym (any_kept (λ (y : Word × X). y.0) (λ n. same_bytes n name) xs) ∙ none-placed (λ (y : Word × X). same_bytes y.0 name) xs new)

-- ---- processors

cross-push : (xs : List CpuId) (c : ℕ) (cs : List ℕ) → list_any (λ b. list_any (λ (e : CpuId). nat_eq e.0 b) xs) cs ≡ false → list_any (λ b. nat_eq c b) cs ≡ false
    → list_any (λ b. list_any (λ (e : CpuId). nat_eq e.0 b) (xs ++ cpu_of_number c ∷ [])) cs ≡ false
cross-push xs c [] h none = refl
cross-push xs c (b ∷ cs) h none =
    let p = or_parts _ _ h in
    let q = or_parts _ _ none in
    rw (any-push (λ (e : CpuId). nat_eq e.0 b) (cpu_of_number c) xs p.0 q.0) (cross-push xs c cs p.1 q.1)

-- processors that differ, and more that differ and are none of them
pub distinct-more : (xs : List CpuId) (cs : List ℕ) → is_distinct same_cpu xs ≡ true → is_distinct (λ a b. nat_eq a b) cs ≡ true
    → list_any (λ b. list_any (λ (e : CpuId). nat_eq e.0 b) xs) cs ≡ false → is_distinct same_cpu (xs ++ map cpu_of_number cs) ≡ true
distinct-more xs [] h d cross = ap (is_distinct same_cpu) (append-nil xs) ∙ h
distinct-more xs (c ∷ cs) h d cross =
    let p = and_parts _ _ d in
    let q = or_parts _ _ cross in
    ap (is_distinct same_cpu) (sym (append_assoc xs (cpu_of_number c ∷ []) (map cpu_of_number cs)))
    ∙ distinct-more (xs ++ cpu_of_number c ∷ []) cs (distinct-push same_cpu xs (cpu_of_number c) h q.0) p.1
    (cross-push xs c cs q.1 (not-true _ p.0))

-- ---- elements

pub all-more : {X : Type 0} (p q : X → Bool) (xs : List X) → ((x : X) → p x ≡ true → q x ≡ true) → list_all p xs ≡ true → list_all q xs ≡ true
all-more p q [] more h = refl
all-more p q (x ∷ xs) more h = let r = and_parts _ _ h in rw (more x r.0) (all-more p q xs more r.1)

-- a test that passes no absent element, in a longer list
pub get-more : {X : Type 0} (p : Option X → Bool) (xs ys : List X) (i : ℕ) → p None ≡ false → ((x : X) → slice_get xs i ≡ Some x → slice_get ys i ≡ Some x)
    → p (slice_get xs i) ≡ true → p (slice_get ys i) ≡ true
get-more {X} p xs ys i none more h = by (slice_get xs i) refl
  where
    by : (o : Option X) → slice_get xs i ≡ o → p (slice_get ys i) ≡ true
    by None e = absurd (false≢true (sym none ∙ sym (ap p e) ∙ h))
    by (Some x) e = ap p (more x e) ∙ sym (ap p e) ∙ h
