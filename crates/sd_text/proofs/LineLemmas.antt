-- The first line of a text, and the rest.
use Rattle.std.proofs.Common.{◌≡◌, ℕ, suc, ◌+◌, ◌-◌, ◌<◌, Bool, true, false, not, cond, ltb, ◌⊎◌, inl, inr, List, [], ◌∷◌, ◌++◌, length, append_assoc, take, drop, get_or, Some, None, unwrap_or, refl, sym, ap, ◌∙◌, arith, length-drop, drop-drop}
use Rattle.std.proofs.lemmas.List.{take_rest}
use Rattle.std.proofs.lemmas.List.Sums.{prefix_len-le-length, passes_at_first}
use Rattle.std.proofs.lemmas.Bool.Decides.{nat_tests}
use Rattle.std.proofs.lemmas.Bool.{and_parts, not-true}
use Rattle.std.specs.List.{position, position_or_len, onto_first, list_all}
use Rattle.sd_text.specs.Lines.{is_newline, lines_of, is_line, text_of_lines}

pub chosen : (b : Bool) (n m : ℕ) → (b ≡ false → n ≡ m) → unwrap_or (cond b (Some n) None) m ≡ n
chosen true n m h = refl
chosen false n m h = sym (h refl)

-- the index that was found, or else the length
pub index_or_length : {A : Type 0} (p : A → Bool) (xs : List A) → unwrap_or (position p xs) (length xs) ≡ position_or_len p xs
index_or_length p xs =
    chosen (ltb (position_or_len p xs) (length xs)) _ _ (λ past. let le = prefix_len-le-length (λ x. not (p x)) xs in grind (arith, nat_tests))

pub take-one_more : (n : ℕ) (x : ℕ) (xs : List ℕ) → take (1 + n) (x ∷ xs) ≡ x ∷ take n xs
take-one_more n x xs = let e : 1 + n ≡ suc n = omega arith in rw e refl

pub drop-one_more : (n : ℕ) (x : ℕ) (xs : List ℕ) → drop (1 + n) (x ∷ xs) ≡ drop n xs
drop-one_more n x xs = let e : 1 + n ≡ suc n = omega arith in rw e refl

-- how many bytes stand before the first newline
abbrev first : List ℕ → ℕ
first xs = position_or_len is_newline xs

lines-step : (b : Bool) (x : ℕ) (xs : List ℕ)
    → (0 < length xs → lines_of xs ≡ take (first xs) xs ∷ lines_of (drop (first xs + 1) xs))
    → cond b ([] ∷ lines_of xs) (onto_first x (lines_of xs))
    ≡ take (cond (not b) (1 + first xs) 0) (x ∷ xs) ∷ lines_of (drop (cond (not b) (1 + first xs) 0 + 1) (x ∷ xs))
unfolding lines_of
lines-step true x xs rest = refl
lines-step false x [] rest = refl
lines-step false x (y ∷ ys) rest =
    let n = first (y ∷ ys) in
    let e : 1 + n + 1 ≡ 1 + (n + 1) = omega arith in
    ap (onto_first x) (rest (omega arith))
    ∙ sym (ap (λ l. l ∷ lines_of (drop (1 + n + 1) (x ∷ y ∷ ys))) (take-one_more n x (y ∷ ys))
    ∙ ap (λ k. (x ∷ take n (y ∷ ys)) ∷ lines_of (drop k (x ∷ y ∷ ys))) e
    ∙ ap (λ l. (x ∷ take n (y ∷ ys)) ∷ lines_of l) (drop-one_more (n + 1) x (y ∷ ys)))

-- the first line stands before the first newline, and the other lines behind it
pub lines-first : (xs : List ℕ) → 0 < length xs → lines_of xs ≡ take (first xs) xs ∷ lines_of (drop (first xs + 1) xs)
unfolding lines_of
lines-first [] h = absurd (omega arith)
lines-first (x ∷ xs) h = lines-step (is_newline x) x xs (lines-first xs)

-- the same of what stands from an index on
pub lines-from : (xs : List ℕ) (from len : ℕ) → from < length xs
    → len ≡ first (take (length xs - from) (drop from xs))
    → lines_of (drop from xs) ≡ take (from + len - from) (drop from xs) ∷ lines_of (drop (from + len + 1) xs)
lines-from xs from len within is =
    let n : len ≡ first (drop from xs) = is ∙ ap first (take_rest xs from) in
    let e : from + len - from ≡ first (drop from xs) = omega arith in
    let f : from + len + 1 ≡ from + (first (drop from xs) + 1) = omega arith in
    rw (e, f) (lines-first (drop from xs) (omega (arith, length-drop from xs))
    ∙ ap (λ l. take (first (drop from xs)) (drop from xs) ∷ lines_of l) (drop-drop (first (drop from xs) + 1) from xs))

-- what stands there
pub newline_at : (xs : List ℕ) (n : ℕ) → n ≡ first xs → n < length xs → get_or xs n 0 ≡ 10
newline_at xs n is within =
    let h : is_newline (get_or xs n 0) ≡ true = rw is (passes_at_first is_newline xs 0 (omega arith)) in grind (arith, nat_tests)

-- ---- lines that are put together

-- a line with its newline, and then more
pub lines_of-line : (line rest : List ℕ) → is_line line ≡ true → lines_of (line ++ 10 ∷ rest) ≡ line ∷ lines_of rest
unfolding lines_of
lines_of-line [] rest h = refl
lines_of-line (x ∷ xs) rest h =
    let p = and_parts _ _ h in
    ap (λ b. cond b ([] ∷ lines_of (xs ++ 10 ∷ rest)) (onto_first x (lines_of (xs ++ 10 ∷ rest)))) (not-true (is_newline x) p.0)
    ∙ ap (onto_first x) (lines_of-line xs rest p.1)

pub lines_of-text : (lines : List (List ℕ)) (rest : List ℕ) → list_all is_line lines ≡ true
    → lines_of (text_of_lines lines ++ rest) ≡ lines ++ lines_of rest
lines_of-text [] rest h = refl
lines_of-text (line ∷ lines) rest h =
    let p = and_parts _ _ h in
    let e : text_of_lines (line ∷ lines) ++ rest ≡ line ++ 10 ∷ (text_of_lines lines ++ rest) = simp append_assoc in
    ap lines_of e ∙ lines_of-line line (text_of_lines lines ++ rest) p.0 ∙ ap (λ l. line ∷ l) (lines_of-text lines rest p.1)

are_lines-onto : (x : ℕ) (lines : List (List ℕ)) → is_newline x ≡ false → list_all is_line lines ≡ true → list_all is_line (onto_first x lines) ≡ true
are_lines-onto x [] e h = rw e refl
are_lines-onto x (line ∷ lines) e h = rw e h

are_lines-step : (b : Bool) (x : ℕ) (xs : List ℕ) → is_newline x ≡ b → list_all is_line (lines_of xs) ≡ true
    → list_all is_line (cond b ([] ∷ lines_of xs) (onto_first x (lines_of xs))) ≡ true
unfolding lines_of
are_lines-step true x xs e h = h
are_lines-step false x xs e h = are_lines-onto x (lines_of xs) e h

-- no line has a newline
pub are_lines : (text : List ℕ) → list_all is_line (lines_of text) ≡ true
unfolding lines_of
are_lines [] = refl
are_lines (x ∷ xs) = are_lines-step (is_newline x) x xs refl (are_lines xs)

nil≢push : (xs : List ℕ) → [] ≡ xs ++ 10 ∷ [] → ⊥
nil≢push [] e = cc
nil≢push (x ∷ xs) e = cc

-- the text again, or the text with the newline that its last line lacked
abbrev pub IsWhole : List ℕ → List ℕ → Type 0
IsWhole again text = (again ≡ text) ⊎ (again ≡ text ++ 10 ∷ [])

whole-onto : (x : ℕ) (xs : List ℕ) (lines : List (List ℕ)) → IsWhole (text_of_lines lines) xs → IsWhole (text_of_lines (onto_first x lines)) (x ∷ xs)
whole-onto x xs [] (inl e) = inr (ap (λ l. x ∷ l ++ 10 ∷ []) e)
whole-onto x xs [] (inr e) = inr (absurd (nil≢push xs e))
whole-onto x xs (line ∷ lines) (inl e) = inl (ap (λ l. x ∷ l) e)
whole-onto x xs (line ∷ lines) (inr e) = inr (ap (λ l. x ∷ l) e)

whole-step : (b : Bool) (x : ℕ) (xs : List ℕ) → is_newline x ≡ b → IsWhole (text_of_lines (lines_of xs)) xs
    → IsWhole (text_of_lines (cond b ([] ∷ lines_of xs) (onto_first x (lines_of xs)))) (x ∷ xs)
whole-step true x xs e (inl h) = let f : x ≡ 10 = grind (arith, nat_tests) in inl (ap (λ l. 10 ∷ l) h ∙ ap (λ k. k ∷ xs) (sym f))
whole-step true x xs e (inr h) = let f : x ≡ 10 = grind (arith, nat_tests) in inr (ap (λ l. 10 ∷ l) h ∙ ap (λ k. k ∷ xs ++ 10 ∷ []) (sym f))
whole-step false x xs e h = whole-onto x xs (lines_of xs) h

pub whole : (text : List ℕ) → IsWhole (text_of_lines (lines_of text)) text
unfolding lines_of
whole [] = inl refl
whole (x ∷ xs) = whole-step (is_newline x) x xs refl (whole xs)
