-- A list that is cut at an index, and what stands there.
use mathlib.Core.Path.{◌≡◌, refl, ap, subst}
use mathlib.Core.List.{List, [], ◌∷◌, ◌++◌}
use Prim.Native.Nat.{ℕ, zero, suc, ◌<◌}
use lib.ListN.{length, length-map}
use native.Mathlib.Omega.{arith}
use Rattle.std.specs.Prelude.{true, map, Some, slice_get, slice_set}
use Rattle.std.specs.List.{insert, remove}
use denote.RawPtr.{Ptr}
use Rattle.sd_boxq.specs.Links.{Link, links_of, has_some}
use Rattle.sd_boxq.specs.Boxes.{LiesAt}
use Rattle.std.proofs.lemmas.Option.{slice_get_within}

pub parted : {X : Type 0} (i : ℕ) (xs : List X) → i < length xs → (front : List X) × (x : X) × (ys : List X) × (xs ≡ front ++ x ∷ ys) × (length front ≡ i)
parted i [] p = absurd (omega arith)
parted zero (x ∷ xs) p = ([], x, xs, refl, refl)
parted (suc i) (x ∷ xs) p = let on = parted i xs (omega arith) in (x ∷ on.0, on.1, on.2, ap (λ l. x ∷ l) on.3, ap (λ n. suc n) on.4)

pub get_seam : {X Y : Type 0} (f : X → Y) (front : List X) (x : X) (ys : List X) (n : ℕ) → length front ≡ n → slice_get (map f (front ++ x ∷ ys)) n ≡ Some (f x)
get_seam f [] x ys n e = subst (λ k. slice_get (map f (x ∷ ys)) k ≡ Some (f x)) e refl
get_seam f (k ∷ front) x ys n e = subst (λ j. slice_get (map f (k ∷ front ++ x ∷ ys)) j ≡ Some (f x)) e (get_seam f front x ys (length front) refl)

-- the box of the index n
pub lies_there : (front : List Link) (l : Link) (ls : List Link) (n : ℕ) (p : Ptr) → length front ≡ n → LiesAt (front ++ l ∷ ls) n p → p ≡ l.0
lies_there front l ls n p e at = let here = get_seam (λ k. k.0) front l ls n e in cc

-- what stands there when a box came behind the last of the front, left, or gave its item away
pub insert_seam : {X : Type 0} (front : List X) (x : X) (ys : List X) (n : ℕ) (y : X) → length front ≡ n → front ++ x ∷ y ∷ ys ≡ insert (front ++ x ∷ ys) (suc n) y
insert_seam [] x ys n y e = subst (λ k. x ∷ y ∷ ys ≡ insert (x ∷ ys) (suc k) y) e refl
insert_seam (z ∷ front) x ys n y e = subst (λ k. z ∷ front ++ x ∷ y ∷ ys ≡ insert (z ∷ front ++ x ∷ ys) (suc k) y) e (ap (λ l. z ∷ l) (insert_seam front x ys (length front) y refl))

pub remove_seam : {X : Type 0} (front : List X) (x y : X) (ys : List X) (n : ℕ) → length front ≡ n → front ++ x ∷ ys ≡ remove (front ++ x ∷ y ∷ ys) (suc n)
remove_seam [] x y ys n e = subst (λ k. x ∷ ys ≡ remove (x ∷ y ∷ ys) (suc k)) e refl
remove_seam (z ∷ front) x y ys n e = subst (λ k. z ∷ front ++ x ∷ ys ≡ remove (z ∷ front ++ x ∷ y ∷ ys) (suc k)) e (ap (λ l. z ∷ l) (remove_seam front x y ys (length front) refl))

pub second_seam : {X : Type 0} (front : List X) (x y : X) (ys : List X) (n : ℕ) → length front ≡ n → slice_get (front ++ x ∷ y ∷ ys) (suc n) ≡ Some y
second_seam [] x y ys n e = subst (λ k. slice_get (x ∷ y ∷ ys) (suc k) ≡ Some y) e refl
second_seam (z ∷ front) x y ys n e = subst (λ k. slice_get (z ∷ front ++ x ∷ y ∷ ys) (suc k) ≡ Some y) e (second_seam front x y ys (length front) refl)

pub first_seam : {X : Type 0} (front : List X) (x : X) (ys : List X) (n : ℕ) → length front ≡ n → slice_get (front ++ x ∷ ys) n ≡ Some x
first_seam [] x ys n e = subst (λ k. slice_get (x ∷ ys) k ≡ Some x) e refl
first_seam (z ∷ front) x ys n e = subst (λ k. slice_get (z ∷ front ++ x ∷ ys) k ≡ Some x) e (first_seam front x ys (length front) refl)

pub set_seam : {X : Type 0} (front : List X) (x y : X) (ys : List X) (n : ℕ) → length front ≡ n → front ++ y ∷ ys ≡ slice_set (front ++ x ∷ ys) n y
set_seam [] x y ys n e = subst (λ k. y ∷ ys ≡ slice_set (x ∷ ys) k y) e refl
set_seam (z ∷ front) x y ys n e = subst (λ k. z ∷ front ++ y ∷ ys ≡ slice_set (z ∷ front ++ x ∷ ys) k y) e (ap (λ l. z ∷ l) (set_seam front x y ys (length front) refl))

pub some_seam : {X : Type 0} (xs : List X) (x : X) (ys : List X) → has_some (xs ++ x ∷ ys) ≡ true
some_seam [] x ys = refl
some_seam (y ∷ xs) x ys = refl

pub single : {X : Type 0} (xs : List X) → length xs ≡ 1 → (x : X) × (xs ≡ x ∷ [])
single [] e = absurd (omega arith)
single (x ∷ []) e = (x, refl)
single (x ∷ y ∷ xs) e = absurd (omega arith)

pub lies_within : {Z X : Type 0} (ns : List (Link × Z)) (xs : List X) (n : ℕ) (p : Ptr) → length xs ≡ length ns → LiesAt (links_of ns) n p → n < length xs
lies_within ns xs n p e at =
    let within = slice_get_within (map (λ l. l.0) (links_of ns)) n p at in
    let places = length-map (links_of ns) (λ l. l.0) in
    let links = length-map ns (λ k. k.0) in
    omega arith
