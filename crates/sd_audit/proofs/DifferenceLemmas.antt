-- How many newlines stand before the first difference, byte by byte.
use Rattle.std.proofs.Common.{◌≡◌, ℕ, ◌+◌, ◌<◌, ◌≤◌, true, false, cond, List, [], ◌∷◌, length, drop, get_or, refl, ap, ◌∙◌, arith}
use Rattle.std.specs.Prelude.{◌==◌}
use Rattle.std.proofs.lemmas.List.{drop_more}
use Rattle.std.proofs.Math.ListN.{drop_of_length-le}
use Rattle.std.proofs.lemmas.Bool.Decides.{nat_tests}
use Rattle.sd_text.specs.Lines.{is_newline}
use Rattle.sd_audit.specs.Differences.{newlines_before}

pub same_first : (x y : ℕ) (xs ys : List ℕ) → (x == y) ≡ true → newlines_before (x ∷ xs) (y ∷ ys) ≡ cond (is_newline x) (1 + newlines_before xs ys) (newlines_before xs ys)
unfolding newlines_before
same_first x y xs ys e = rw e refl

pub other_first : (x y : ℕ) (xs ys : List ℕ) → (x == y) ≡ false → newlines_before (x ∷ xs) (y ∷ ys) ≡ 0
unfolding newlines_before
other_first x y xs ys e = rw e refl

pub none_left : (ys : List ℕ) → newlines_before [] ys ≡ 0
unfolding newlines_before
none_left ys = refl

pub no_other : (xs : List ℕ) → newlines_before xs [] ≡ 0
unfolding newlines_before
no_other [] = refl
no_other (x ∷ xs) = refl

module _ (xs ys : List ℕ) (i : ℕ) where
  both_more : i < length xs → i < length ys → newlines_before (drop i xs) (drop i ys) ≡ newlines_before (get_or xs i 0 ∷ drop (i + 1) xs) (get_or ys i 0 ∷ drop (i + 1) ys)
  both_more h k = ap (λ (l : List ℕ). newlines_before l (drop i ys)) (drop_more xs i 0 h) ∙ ap (newlines_before (get_or xs i 0 ∷ drop (i + 1) xs)) (drop_more ys i 0 k)

  pub same_byte : i < length xs → i < length ys → get_or xs i 0 ≡ get_or ys i 0
      → newlines_before (drop i xs) (drop i ys) ≡ cond (is_newline (get_or xs i 0)) (1 + newlines_before (drop (i + 1) xs) (drop (i + 1) ys)) (newlines_before (drop (i + 1) xs) (drop (i + 1) ys))
  same_byte h k same =
      both_more h k ∙ same_first _ _ _ _ (let e : (get_or xs i 0 == get_or ys i 0) ≡ true = grind (arith, nat_tests) in e)

  pub at_newline : i < length xs → i < length ys → get_or xs i 0 ≡ get_or ys i 0 → get_or xs i 0 ≡ 10
      → newlines_before (drop i xs) (drop i ys) ≡ 1 + newlines_before (drop (i + 1) xs) (drop (i + 1) ys)
  at_newline h k same is =
      let e : is_newline (get_or xs i 0) ≡ true = grind (arith, nat_tests) in
      same_byte h k same ∙ ap (λ b. cond b (1 + newlines_before (drop (i + 1) xs) (drop (i + 1) ys)) (newlines_before (drop (i + 1) xs) (drop (i + 1) ys))) e

  pub at_byte : i < length xs → i < length ys → get_or xs i 0 ≡ get_or ys i 0 → ¬ (get_or xs i 0 ≡ 10)
      → newlines_before (drop i xs) (drop i ys) ≡ newlines_before (drop (i + 1) xs) (drop (i + 1) ys)
  at_byte h k same is =
      let e : is_newline (get_or xs i 0) ≡ false = grind (arith, nat_tests) in
      same_byte h k same ∙ ap (λ b. cond b (1 + newlines_before (drop (i + 1) xs) (drop (i + 1) ys)) (newlines_before (drop (i + 1) xs) (drop (i + 1) ys))) e

  pub at_difference : i < length xs → i < length ys → ¬ (get_or xs i 0 ≡ get_or ys i 0) → newlines_before (drop i xs) (drop i ys) ≡ 0
  at_difference h k differs =
      both_more h k ∙ other_first _ _ _ _ (let e : (get_or xs i 0 == get_or ys i 0) ≡ false = grind (arith, nat_tests) in e)

  pub at_end : length xs ≤ i → newlines_before (drop i xs) (drop i ys) ≡ 0
  at_end h = ap (λ (l : List ℕ). newlines_before l (drop i ys)) (drop_of_length-le xs h) ∙ none_left (drop i ys)

  pub at_other_end : length ys ≤ i → newlines_before (drop i xs) (drop i ys) ≡ 0
  at_other_end h = ap (newlines_before (drop i xs)) (drop_of_length-le ys h) ∙ no_other (drop i xs)
