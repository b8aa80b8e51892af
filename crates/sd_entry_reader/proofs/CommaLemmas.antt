-- Numbers that commas join, read one after the other.
use Rattle.std.proofs.Common.{◌≡◌, ℕ, zero, suc, ◌+◌, ◌-◌, ◌<◌, ◌≤◌, Bool, true, false, not, cond, ltb, List, [], ◌∷◌, ◌++◌, length, map, take, drop, drop-drop, length-drop, length-append, append_assoc, Some, None, position, refl, sym, ap, subst, ◌∙◌, arith}
use Rattle.std.specs.List.{position_or_len, slice_split, onto_first}
use Rattle.std.proofs.lemmas.Bool.Decides.{nat_tests}
use Rattle.std.proofs.lemmas.List.{take_rest, take_all}
use Rattle.std.proofs.lemmas.List.Splits.{slice_split_first}
use Rattle.std.proofs.lemmas.Option.{none-some, same_Some}
use Rattle.sd_entries.specs.Reading.{byte_in, is_comma, numbers_in}

index_of : (b : Bool) (n k : ℕ) → Some k ≡ cond b (Some n) None → (b ≡ true) × (k ≡ n)
index_of true n k e = (refl, same_Some k n e)
index_of false n k e = absurd (none-some k (sym e))

no_index : (b : Bool) (n : ℕ) → None ≡ cond b (Some n) None → b ≡ false
no_index true n e = absurd (none-some n e)
no_index false n e = refl

at_comma : (xs : List ℕ) (k : ℕ) → Some k ≡ position is_comma xs → (k < length xs) × (slice_split is_comma xs ≡ take k xs ∷ slice_split is_comma (drop (k + 1) xs))
at_comma xs k found =
    let r = index_of (ltb (position_or_len is_comma xs) (length xs)) (position_or_len is_comma xs) k found in
    let inside : position_or_len is_comma xs < length xs = grind (arith, nat_tests, r.0) in
    let is : k ≡ position_or_len is_comma xs = r.1 in
    (omega (arith, is, inside), subst (λ (n : ℕ). slice_split is_comma xs ≡ take n xs ∷ slice_split is_comma (drop (n + 1) xs)) (sym is) (slice_split_first is_comma xs 0 inside))

part_more : (b : Bool) (x : ℕ) (xs : List ℕ) → is_comma x ≡ b → length (x ∷ xs) ≤ cond (not b) (1 + position_or_len is_comma xs) 0
    → (length xs ≤ position_or_len is_comma xs → slice_split is_comma xs ≡ xs ∷ [])
    → cond b ([] ∷ slice_split is_comma xs) (onto_first x (slice_split is_comma xs)) ≡ (x ∷ xs) ∷ []
part_more true x xs is le rest = absurd (omega arith)
part_more false x xs is le rest = ap (onto_first x) (rest (omega arith))

one_part : (xs : List ℕ) → length xs ≤ position_or_len is_comma xs → slice_split is_comma xs ≡ xs ∷ []
one_part [] past = refl
one_part (x ∷ xs) past = part_more (is_comma x) x xs refl past (one_part xs)

no_comma : (xs : List ℕ) → None ≡ position is_comma xs → slice_split is_comma xs ≡ xs ∷ []
no_comma xs none =
    let past = no_index (ltb (position_or_len is_comma xs) (length xs)) (position_or_len is_comma xs) none in
    one_part xs (grind (arith, nat_tests, past))

take_made : (xs ys : List ℕ) (n : ℕ) → length xs ≡ n → take n (xs ++ ys) ≡ xs
take_made [] ys zero e = refl
take_made [] ys (suc n) e = absurd (omega arith)
take_made (x ∷ xs) ys zero e = absurd (omega arith)
take_made (x ∷ xs) ys (suc n) e = ap (λ (zs : List ℕ). x ∷ zs) (take_made xs ys n (omega arith))

module _ (word made : List ℕ) (from : ℕ) (inside : from ≤ length word)
    (so_far : made ++ map byte_in (slice_split is_comma (drop from word)) ≡ map byte_in (slice_split is_comma word)) where
  -- a number more, before a comma
  module _ (len n : ℕ) (found : Some len ≡ position is_comma (take (length word - from) (drop from word))) (is : n ≡ byte_in (take (from + len - from) (drop from word))) where
    at_rest : (len < length (drop from word)) × (slice_split is_comma (drop from word) ≡ take len (drop from word) ∷ slice_split is_comma (drop (len + 1) (drop from word)))
    at_rest = at_comma (drop from word) len (found ∙ ap (position is_comma) (take_rest word from))

    pub number_more : (made ++ n ∷ []) ++ map byte_in (slice_split is_comma (drop (from + (len + 1)) word)) ≡ map byte_in (slice_split is_comma word)
    number_more =
        let more = map byte_in (slice_split is_comma (drop (from + (len + 1)) word)) in
        let whole : from + len - from ≡ len = omega arith in
        let number : n ≡ byte_in (take len (drop from word)) = is ∙ ap (λ (k : ℕ). byte_in (take k (drop from word))) whole in
        append_assoc made (n ∷ []) more
        ∙ ap (λ (k : ℕ). made ++ (k ∷ more)) number
        ∙ ap (λ (rest : List ℕ). made ++ (byte_in (take len (drop from word)) ∷ map byte_in (slice_split is_comma rest))) (sym (drop-drop (len + 1) from word))
        ∙ ap (λ (parts : List (List ℕ)). made ++ map byte_in parts) (sym at_rest.1)
        ∙ so_far

    pub number_inside : from + (len + 1) ≤ length word
    number_inside = let less = at_rest.0 in omega (arith, length-drop from word)

  -- the last number
  pub number_last : (n : ℕ) → length made < 64 → None ≡ position is_comma (take (length word - from) (drop from word))
      → n ≡ byte_in (take (length word - from) (drop from word)) → made ++ n ∷ [] ≡ numbers_in word
  unfolding numbers_in
  number_last n few none is =
      let rest = take_rest word from in
      let all : made ++ n ∷ [] ≡ map byte_in (slice_split is_comma word) =
      ap (λ (k : ℕ). made ++ k ∷ []) (is ∙ ap byte_in rest)
      ∙ ap (λ (parts : List (List ℕ)). made ++ map byte_in parts) (sym (no_comma (drop from word) (none ∙ ap (position is_comma) rest)))
      ∙ so_far in
      let most : length (made ++ n ∷ []) ≤ 64 = omega (arith, length-append made (n ∷ [])) in
      sym (take_all 64 (made ++ n ∷ []) most) ∙ ap (take 64) all

  -- no more than 64
  pub numbers_full : length made ≡ 64 → made ≡ numbers_in word
  unfolding numbers_in
  numbers_full full = sym (take_made made (map byte_in (slice_split is_comma (drop from word))) 64 full) ∙ ap (take 64) so_far
