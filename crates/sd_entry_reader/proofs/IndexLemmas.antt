-- The index that was found, or else the length; words further on; names that differ.
use Rattle.std.proofs.Common.{◌≡◌, ℕ, ◌+◌, ◌<◌, ◌≤◌, Bool, true, false, not, ◌||◌, List, [], ◌∷◌, ◌++◌, length, map, take, drop, get_or, position, refl, sym, ap, ◌∙◌}
use Rattle.std.specs.Prelude.{unwrap_or}
use Rattle.std.specs.List.{position_or_len, list_any}
use Rattle.std.proofs.lemmas.Bool.{or_parts, and_parts, not-true}
use Rattle.std.proofs.lemmas.List.{drop_more, map-append, take-append-drop}
use Rattle.std.proofs.lemmas.List.Folds.{list_any-append}
use Rattle.std.proofs.lemmas.List.Sums.{prefix_len-le-length}
use Rattle.sd_types.specs.Works.{is_distinct, same_bytes}
use Rattle.sd_lines.proofs.PlaceLemmas.{position-map}
use Rattle.sd_text.proofs.LineLemmas.{index_or_length}

module _ {X : Type 0} (p : X → Bool) (xs : List X) where
  pub index_within : position_or_len p xs ≤ length xs
  index_within = prefix_len-le-length (λ x. not (p x)) xs

-- the number of a name is that of the first with the name
module _ {X : Type 0} (name : X → List ℕ) (xs : List X) (word : List ℕ) where
  pub number-named : unwrap_or (position (λ n. same_bytes n word) (map name xs)) (length xs) ≡ position_or_len (λ x. same_bytes (name x) word) xs
  number-named =
      ap (λ o. unwrap_or o (length xs)) (position-map name (λ n. same_bytes n word) xs)
      ∙ index_or_length (λ x. same_bytes (name x) word) xs

-- ---- names that differ, one after another

-- an element is none of those in front of it
distinct-before : {X : Type 0} (same : X → X → Bool) (ys : List X) (z : X) (zs : List X) → is_distinct same (ys ++ z ∷ zs) ≡ true → list_any (λ y. same y z) ys ≡ false
distinct-before same [] z zs h = refl
distinct-before same (y ∷ ys) z zs h =
    let p = and_parts (not (list_any (same y) (ys ++ z ∷ zs))) (is_distinct same (ys ++ z ∷ zs)) h in
    let none = sym (list_any-append (same y) ys (z ∷ zs)) ∙ not-true _ p.0 in
    let q = or_parts (list_any (same y) ys) (same y z || list_any (same y) zs) none in
    let r = or_parts (same y z) (list_any (same y) zs) q.1 in
    rw (r.0) (distinct-before same ys z zs p.1)

module _ {X : Type 0} (name : X → List ℕ) (xs : List X) (i : ℕ) (x : X) (inside : i < length xs) (is : x ≡ get_or xs i x) where
  split-named : map name xs ≡ map name (take i xs) ++ name x ∷ map name (drop (i + 1) xs)
  split-named =
      ap (map name) (sym (take-append-drop i xs) ∙ ap (λ l. take i xs ++ l) (drop_more xs i x inside ∙ ap (λ y. y ∷ drop (i + 1) xs) (sym is)))
      ∙ map-append name (take i xs) (x ∷ drop (i + 1) xs)

  pub name-new : is_distinct same_bytes (map name xs) ≡ true → list_any (λ n. same_bytes n (name x)) (map name (take i xs)) ≡ false
  name-new h =
      distinct-before same_bytes (map name (take i xs)) (name x) (map name (drop (i + 1) xs))
      (sym (ap (is_distinct same_bytes) split-named) ∙ h)
