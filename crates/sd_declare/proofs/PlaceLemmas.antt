-- Lists of what is kept, read as plain data.
use Rattle.std.proofs.Common.{◌≡◌, ℕ, suc, ◌+◌, ◌<◌, ◌≤◌, Bool, true, false, not, ◌||◌, cond, ltb, leb, List, [], ◌∷◌, length, map, unwrap_or, refl, sym, ap, ◌∙◌, arith}
use Rattle.std.specs.List.{position, position_or_len, list_any, sum_by, slice_get, All}
use Rattle.std.specs.Option.{option_map}
use Rattle.std.proofs.lemmas.List.Folds.{fold-map}
use Rattle.std.proofs.lemmas.List.Sums.{prefix_len-le-length}
use Rattle.std.proofs.lemmas.Option.{slice_get-map}
use Rattle.std.proofs.lemmas.Bool.{false≢true}
use Rattle.std.proofs.lemmas.List.Elements.{All-cons}
use Rattle.std.proofs.lemmas.Bool.Decides.{nat_tests}
use Rattle.sd_basics.proofs.Lists.{any-map, map-map, place-map}
use Rattle.sd_types.specs.Works.{same_bytes}
use Rattle.sd_lines.proofs.PlaceLemmas.{position-map}
use Rattle.sd_text.proofs.LineLemmas.{index_or_length}

-- the place of the first that passes, among what is shown of a list
pub place_kept : {A B : Type 0} (f : A → B) (p : B → Bool) (xs : List A) → unwrap_or (position (λ x. p (f x)) xs) (length xs) ≡ position_or_len p (map f xs)
place_kept f p xs = index_or_length (λ x. p (f x)) xs ∙ sym (place-map p f xs)

placed : (b : Bool) (n m : ℕ) → ltb (cond (not b) (1 + n) 0) (suc m) ≡ false → (b ≡ false) × (ltb n m ≡ false)
placed true n m h = absurd (grind (arith, nat_tests))
placed false n m h = (refl, grind (arith, nat_tests))

-- none passes where the first that passes stands past the end
pub none-placed : {X : Type 0} (p : X → Bool) (xs : List X) → ltb (position_or_len p xs) (length xs) ≡ false → list_any p xs ≡ false
none-placed p [] h = refl
none-placed p (x ∷ xs) h =
    let q = placed (p x) (position_or_len p xs) (length xs) h in
    rw (q.0) (none-placed p xs q.1)

pub place_within : {A B : Type 0} (f : A → B) (p : B → Bool) (xs : List A) → unwrap_or (position (λ x. p (f x)) xs) (length xs) ≤ length xs
place_within f p xs = let e = index_or_length (λ x. p (f x)) xs in let le = prefix_len-le-length (λ x. not (p (f x))) xs in omega (arith, e, le)

-- an element of what is shown twice
pub get_kept : {A B C : Type 0} (f : A → B) (g : B → C) (xs : List A) (n : ℕ) → option_map (λ x. g (f x)) (slice_get xs n) ≡ slice_get (map g (map f xs)) n
get_kept f g xs n = sym (ap (λ l. slice_get l n) (map-map f g xs) ∙ slice_get-map (λ x. g (f x)) xs n)

pub any_kept : {A B : Type 0} (f : A → B) (p : B → Bool) (xs : List A) → list_any (λ x. p (f x)) xs ≡ list_any p (map f xs)
any_kept f p [] = refl
any_kept f p (x ∷ xs) = ap (λ b. p (f x) || b) (any_kept f p xs)

pub sum_kept : {A B : Type 0} (f : A → B) (g : B → ℕ) (xs : List A) → sum_by (λ x. g (f x)) xs ≡ sum_by g (map f xs)
sum_kept f g xs = sym (fold-map (λ n x. n + g x) f 0 xs)

-- numbers below a bound
pub all-below : (n : ℕ) (cs : List ℕ) → list_any (λ c. leb n c) cs ≡ false → n ≤ 64 → All (λ c. c < 64) cs
all-below n [] h most = λ k d l. absurd (omega arith)
all-below n (c ∷ cs) h most =
    let p = neither (leb n c) (list_any (λ b. leb n b) cs) h in
    let lt : c < 64 = grind (arith, nat_tests, p.0) in
    All-cons (λ b. b < 64) c cs lt (all-below n cs p.1 most)
  where
    neither : (a b : Bool) → (a || b) ≡ false → (a ≡ false) × (b ≡ false)
    neither true b e = absurd (false≢true (sym e))
    neither false b e = (refl, e)

-- Names that are listed beside what is kept.
module _ {A B : Type 0} (kept : A → B) (name : B → List ℕ) (xs : List A) (word : List ℕ) where
  -- the number of a name is that of the first with the name
  pub number-named : unwrap_or (position (λ n. same_bytes n word) (map (λ x. name (kept x)) xs)) (length xs) ≡ position_or_len (λ y. same_bytes (name y) word) (map kept xs)
  number-named =
      ap (λ o. unwrap_or o (length xs)) (position-map (λ x. name (kept x)) (λ n. same_bytes n word) xs)
      ∙ place_kept kept (λ y. same_bytes (name y) word) xs

  pub number-within : unwrap_or (position (λ n. same_bytes n word) (map (λ x. name (kept x)) xs)) (length xs) ≤ length xs
  number-within =
      let e = ap (λ o. unwrap_or o (length xs)) (position-map (λ x. name (kept x)) (λ n. same_bytes n word) xs) in
      let le = place_within kept (λ y. same_bytes (name y) word) xs in
      omega (arith, e, le)

  -- a name is not listed where nothing that is kept has it
  pub not-named : ltb (position_or_len (λ y. same_bytes (name y) word) (map kept xs)) (length (map kept xs)) ≡ false
      → list_any (λ n. same_bytes n word) (map (λ x. name (kept x)) xs) ≡ false
  not-named h =
      any-map (λ n. same_bytes n word) (λ x. name (kept x)) xs
      ∙ any_kept kept (λ y. same_bytes (name y) word) xs
      ∙ none-placed (λ y. same_bytes (name y) word) (map kept xs) h
