-- Reading items and writing them one after the other, as a loop does.
use Rattle.std.proofs.Common.{◌≡◌, ℕ, suc, ◌-◌, ◌+◌, ◌≤◌, ◌<◌, List, [], ◌∷◌, ◌++◌, Option, Some, None, refl, sym, ap, ◌∙◌, append_assoc, arith, get_or, take, length, subst}
use Rattle.std.specs.List.{All, flat_map}
use Rattle.std.proofs.lemmas.List.{append-nil, take_more}
use Rattle.std.proofs.lemmas.List.Elements.{All-push}
use Rattle.std.proofs.lemmas.Grind.{flat_map-append}
use Rattle.sd_encoding.specs.Reading.{◌>>=◌, items_at}

-- what was read before, and what is still read
abbrev pub with_front : {A : Type 0} → List A → Option (List A × List ℕ) → Option (List A × List ℕ)
with_front front read = read >>= λ x. Some (front ++ x.0, x.1)

regroup : {A : Type 0} (front : List A) (x : A) (read : Option (List A × List ℕ)) → with_front front (read >>= λ y. Some (x ∷ y.0, y.1)) ≡ with_front (front ++ x ∷ []) read
regroup {A} front x (Some y) = ap (λ (xs : List A). Some (xs, y.1)) (sym (append_assoc front (x ∷ []) y.0))
regroup front x None = refl

pub goes_on : {A : Type 0} (each : List ℕ → Option (A × List ℕ)) (front : List A) (count i : ℕ) (ns : List ℕ) (x : A) (after : List ℕ) (total : Option (List A × List ℕ)) → i < count → Some (x, after) ≡ each ns
    → with_front front (items_at each (count - i) ns) ≡ total → with_front (front ++ x ∷ []) (items_at each (count - (i + 1)) after) ≡ total
unfolding items_at
goes_on each front count i ns x after total lt h so_far =
    let k : count - i ≡ suc (count - (i + 1)) = omega arith in
    let one : with_front front (items_at each (count - i) ns) ≡ with_front (front ++ x ∷ []) (items_at each (count - (i + 1)) after) = rw (k, ← h) (regroup front x (items_at each (count - (i + 1)) after)) in
    sym one ∙ so_far

pub ends : {A : Type 0} (each : List ℕ → Option (A × List ℕ)) (front : List A) (count i : ℕ) (ns : List ℕ) (total : Option (List A × List ℕ)) → i < count → None ≡ each ns
    → with_front front (items_at each (count - i) ns) ≡ total → None ≡ total
unfolding items_at
ends each front count i ns total lt h so_far =
    let k : count - i ≡ suc (count - (i + 1)) = omega arith in
    let one : with_front front (items_at each (count - i) ns) ≡ None = rw (k, ← h) refl in
    sym one ∙ so_far

pub is_done : {A : Type 0} (each : List ℕ → Option (A × List ℕ)) (front : List A) (count i : ℕ) (ns : List ℕ) (total : Option (List A × List ℕ)) → count ≤ i
    → with_front front (items_at each (count - i) ns) ≡ total → Some (front, ns) ≡ total
unfolding items_at
is_done {A} each front count i ns total le so_far =
    let k : count - i ≡ 0 = omega arith in
    let one : with_front front (items_at each (count - i) ns) ≡ Some (front, ns) = rw k (ap (λ (xs : List A). Some (xs, ns)) (append-nil front)) in
    sym one ∙ so_far

front_more : {A : Type 0} (xs : List A) (i : ℕ) (x : A) → i < length xs → x ≡ get_or xs i x → take (i + 1) xs ≡ take i xs ++ x ∷ []
front_more {A} xs i x lt is = take_more xs i x lt ∙ ap (λ (y : A). take i xs ++ y ∷ []) (sym is)

pub written_more : {A : Type 0} (each : A → List ℕ) (old into new : List ℕ) (n : ℕ) (xs : List A) (i : ℕ) (x : A) → i < length xs → x ≡ get_or xs i x
    → into ≡ old ++ n ∷ flat_map each (take i xs) → new ≡ into ++ each x → new ≡ old ++ n ∷ flat_map each (take (i + 1) xs)
written_more each old into new n xs i x lt is so_far now =
    let more : flat_map each (take (i + 1) xs) ≡ flat_map each (take i xs) ++ each x =
    ap (flat_map each) (front_more xs i x lt is) ∙ flat_map-append each (take i xs) (x ∷ []) ∙ ap (λ (ns : List ℕ). flat_map each (take i xs) ++ ns) (append-nil (each x)) in
    now ∙ ap (λ (ns : List ℕ). ns ++ each x) so_far ∙ append_assoc old (n ∷ flat_map each (take i xs)) (each x) ∙ ap (λ (ns : List ℕ). old ++ n ∷ ns) (sym more)

pub fits_more : {A : Type 0} (Fits : A → Type 0) (xs : List A) (i : ℕ) (x : A) → i < length xs → x ≡ get_or xs i x → All Fits (take i xs) → Fits x → All Fits (take (i + 1) xs)
fits_more {A} Fits xs i x lt is so_far here = subst (λ (ys : List A). All Fits ys) (sym (front_more xs i x lt is)) (All-push Fits (take i xs) x so_far here)
