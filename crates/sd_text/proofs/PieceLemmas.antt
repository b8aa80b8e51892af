-- Pieces that are one line each, what is left of one, and texts of whole lines.
use Rattle.std.proofs.Common.{◌≡◌, ℕ, zero, suc, ◌+◌, ◌-◌, ◌<◌, ◌≤◌, Bool, true, false, not, cond, All, List, [], ◌∷◌, ◌++◌, length, map, append_assoc, take, drop, Option, Some, refl, sym, ap, ◌∙◌, subst, arith, length-drop, length-take-le, lit<}
use Rattle.std.proofs.lemmas.Bool.{and_parts}
use Rattle.std.proofs.lemmas.List.{take_rest}
use Rattle.std.proofs.lemmas.List.Elements.{All-nil, All-cons, All-head, All-tail}
use Rattle.std.proofs.lemmas.List.Folds.{flat_map-map}
use Rattle.std.proofs.lemmas.Bool.Decides.{nat_tests}
use Rattle.std.specs.List.{position_or_len, onto_first, list_all, last_or, flat_map}
use Rattle.sd_text.specs.Lines.{is_newline, lines_of, is_line, text_of_lines, IsOneLine, EndsLine, pieces_of, text_of_pieces}
use Rattle.sd_text.proofs.LineLemmas.{are_lines, lines_of-line}

-- how many bytes stand before the first newline
abbrev first : List ℕ → ℕ
first xs = position_or_len is_newline xs

-- ---- what is left of a line

first-drop_step : (b : Bool) (n f g : ℕ) → suc n ≤ cond b (1 + f) 0 → (n ≤ f → g + n ≡ f) → g + suc n ≡ cond b (1 + f) 0
first-drop_step true n f g h rest = let e : g + n ≡ f = rest (omega arith) in omega arith
first-drop_step false n f g h rest = absurd (omega arith)

first-drop : (xs : List ℕ) (n : ℕ) → n ≤ first xs → first (drop n xs) + n ≡ first xs
first-drop xs zero h = omega arith
first-drop [] (suc n) h = absurd (omega arith)
first-drop (x ∷ xs) (suc n) h = first-drop_step (not (is_newline x)) n (first xs) (first (drop n xs)) h (first-drop xs n)

rest_is_line : (piece : List ℕ) (at : ℕ) → IsOneLine piece → at < length piece → IsOneLine (drop at piece)
rest_is_line piece at one within = let e = first-drop piece at (omega arith) in omega (arith, length-drop at piece)

-- the rest of a line is one line
pub rest-one_line : (piece : List ℕ) (at : ℕ) → IsOneLine piece → at < length piece → IsOneLine (take (length piece - at) (drop at piece))
rest-one_line piece at one within = subst IsOneLine (sym (take_rest piece at)) (rest_is_line piece at one within)

-- ---- the first line of a text of whole lines

first-cut_step : (b : Bool) (n f g : ℕ) → cond b (1 + f) 0 < suc n → (f < n → g ≡ f) → cond b (1 + g) 0 ≡ cond b (1 + f) 0
first-cut_step true n f g h rest = ap (λ k. 1 + k) (rest (omega arith))
first-cut_step false n f g h rest = refl

first-cut : (xs : List ℕ) (n : ℕ) → first xs < n → first (take n xs) ≡ first xs
first-cut xs zero h = absurd (omega arith)
first-cut [] (suc n) h = refl
first-cut (x ∷ xs) (suc n) h = first-cut_step (not (is_newline x)) n (first xs) (first (take n xs)) h (first-cut xs n)

-- whatever stands in front of it, a text whose last byte is a newline has one
found_step : (b : Bool) (f n : ℕ) → f < n → cond b (1 + f) 0 < 1 + n
found_step true f n h = omega arith
found_step false f n h = omega arith

found_one : (x : ℕ) → Some x ≡ Some 10 → cond (not (is_newline x)) 1 0 < 1
found_one x e = let f : x ≡ 10 = cc in rw f (lit< tt)

newline_found : (o : Option ℕ) (xs : List ℕ) → 0 < length xs → last_or o xs ≡ Some 10 → first xs < length xs
newline_found o [] some e = absurd (omega arith)
newline_found o (x ∷ []) some e = found_one x e
newline_found o (x ∷ y ∷ ys) some e =
    let rest = newline_found (Some x) (y ∷ ys) (omega arith) e in
    let more = found_step (not (is_newline x)) (first (y ∷ ys)) (length (y ∷ ys)) rest in omega arith

-- the first line of a text of whole lines, which is not empty
pub first-one_line : (xs : List ℕ) → 0 < length xs → EndsLine xs → (first xs < length xs) × IsOneLine (take (first xs + 1) xs)
first-one_line xs some ends =
    let found = newline_found (Some 10) xs some ends in
    (found, let e = first-cut xs (first xs + 1) (omega arith) in omega (arith, length-take-le (first xs + 1) xs (omega arith)))

-- ---- texts of whole lines

last_or-append : (o : Option ℕ) (xs ys : List ℕ) → last_or o (xs ++ ys) ≡ last_or (last_or o xs) ys
last_or-append o [] ys = refl
last_or-append o (x ∷ xs) ys = last_or-append (Some x) xs ys

pub EndsLine-append : (xs ys : List ℕ) → EndsLine xs → EndsLine ys → EndsLine (xs ++ ys)
EndsLine-append xs ys p q = last_or-append (Some 10) xs ys ∙ ap (λ o. last_or o ys) p ∙ q

-- what a newline ends
pub EndsLine-newline : (xs : List ℕ) → EndsLine (xs ++ 10 ∷ [])
EndsLine-newline xs = last_or-append (Some 10) xs (10 ∷ [])

ends-drop : (o : Option ℕ) (xs : List ℕ) (n : ℕ) → last_or o xs ≡ Some 10 → last_or (Some 10) (drop n xs) ≡ Some 10
ends-drop o [] zero e = refl
ends-drop o [] (suc n) e = refl
ends-drop o (x ∷ xs) zero e = e
ends-drop o (x ∷ xs) (suc n) e = ends-drop (Some x) xs n e

-- what stands behind an index
pub EndsLine-drop : (xs : List ℕ) (n : ℕ) → EndsLine xs → EndsLine (drop n xs)
EndsLine-drop xs n e = ends-drop (Some 10) xs n e

pub EndsLine-flat_map : {X : Type 0} (f : X → List ℕ) → ((x : X) → EndsLine (f x)) → (xs : List X) → EndsLine (flat_map f xs)
EndsLine-flat_map f each [] = refl
EndsLine-flat_map f each (x ∷ xs) = EndsLine-append (f x) (flat_map f xs) (each x) (EndsLine-flat_map f each xs)

-- ---- one line

pub one_line-newline : (line : List ℕ) → is_line line ≡ true → IsOneLine (line ++ 10 ∷ [])
one_line-newline [] h = refl
one_line-newline (x ∷ xs) h =
    let p = and_parts _ _ h in
    let rest = one_line-newline xs p.1 in
    ap (λ b. cond b (1 + first (xs ++ 10 ∷ [])) 0 + 1) p.0 ∙ omega arith

-- what stands in one line, before such a piece
pub one_line-append : (xs ys : List ℕ) → is_line xs ≡ true → IsOneLine ys → IsOneLine (xs ++ ys)
one_line-append [] ys h one = one
one_line-append (x ∷ xs) ys h one =
    let p = and_parts _ _ h in
    let rest = one_line-append xs ys p.1 one in
    ap (λ b. cond b (1 + first (xs ++ ys)) 0 + 1) p.0 ∙ omega arith

-- a line and its newline
abbrev pub Split : List ℕ → Type 0
Split piece = (line : List ℕ) × (piece ≡ line ++ 10 ∷ []) × (is_line line ≡ true)

split_one : (x : ℕ) → cond (not (is_newline x)) 1 0 + 1 ≡ 1 → Split (x ∷ [])
split_one x e = let f : x ≡ 10 = grind (arith, nat_tests) in ([], ap (λ k. k ∷ []) f, refl)

split_more : (b : Bool) (x : ℕ) (xs : List ℕ) → not (is_newline x) ≡ b → 0 < length xs → cond b (1 + first xs) 0 + 1 ≡ 1 + length xs
    → (IsOneLine xs → Split xs) → Split (x ∷ xs)
split_more true x xs h some e rest =
    let s = rest (omega arith) in (x ∷ s.0, ap (λ l. x ∷ l) s.1, rw h s.2)
split_more false x xs h some e rest = absurd (omega arith)

pub split : (piece : List ℕ) → IsOneLine piece → Split piece
split [] e = absurd (omega arith)
split (x ∷ []) e = split_one x e
split (x ∷ y ∷ ys) e = split_more (not (is_newline x)) x (y ∷ ys) refl (omega arith) (omega arith) (split (y ∷ ys))

pub EndsLine-one_line : (piece : List ℕ) → IsOneLine piece → EndsLine piece
EndsLine-one_line piece one = let s = split piece one in subst EndsLine (sym s.1) (EndsLine-newline s.0)

-- ---- the pieces of a text

one_lines : (lines : List (List ℕ)) → list_all is_line lines ≡ true → All IsOneLine (map (λ line. line ++ 10 ∷ []) lines)
one_lines [] h = All-nil IsOneLine
one_lines (line ∷ lines) h =
    let p = and_parts _ _ h in
    All-cons IsOneLine (line ++ 10 ∷ []) (map (λ l. l ++ 10 ∷ []) lines) (one_line-newline line p.0) (one_lines lines p.1)

pub pieces-one_lines : (text : List ℕ) → All IsOneLine (pieces_of text)
pieces-one_lines text = one_lines (lines_of text) (are_lines text)

-- the lines of a text, together again
again_onto : (x : ℕ) (xs : List ℕ) (lines : List (List ℕ)) → 0 < length xs → text_of_lines lines ≡ xs → text_of_lines (onto_first x lines) ≡ x ∷ xs
again_onto x xs [] some e = absurd (let n = ap length e in omega arith)
again_onto x xs (line ∷ lines) some e = ap (λ l. x ∷ l) e

again_step : (b : Bool) (x : ℕ) (xs : List ℕ) → is_newline x ≡ b → 0 < length xs → text_of_lines (lines_of xs) ≡ xs
    → text_of_lines (cond b ([] ∷ lines_of xs) (onto_first x (lines_of xs))) ≡ x ∷ xs
again_step true x xs h some e = let f : 10 ≡ x = grind (arith, nat_tests) in ap (λ l. 10 ∷ l) e ∙ ap (λ k. k ∷ xs) f
again_step false x xs h some e = again_onto x xs (lines_of xs) some e

again_one : (x : ℕ) → Some x ≡ Some 10 → text_of_lines (lines_of (x ∷ [])) ≡ x ∷ []
unfolding lines_of
again_one x e = let f : x ≡ 10 = cc in rw f refl

again : (o : Option ℕ) (xs : List ℕ) → last_or o xs ≡ Some 10 → 0 < length xs → text_of_lines (lines_of xs) ≡ xs
unfolding lines_of
again o [] e some = absurd (omega arith)
again o (x ∷ []) e some = again_one x e
again o (x ∷ y ∷ ys) e some = again_step (is_newline x) x (y ∷ ys) refl (omega arith) (again (Some x) (y ∷ ys) e (omega arith))

again_all : (xs : List ℕ) → EndsLine xs → text_of_lines (lines_of xs) ≡ xs
unfolding lines_of
again_all [] e = refl
again_all (x ∷ xs) e = again (Some 10) (x ∷ xs) e (omega arith)

pub pieces-text : (text : List ℕ) → EndsLine text → text_of_pieces (pieces_of text) ≡ text
pieces-text text ends = flat_map-map (λ piece. piece) (λ line. line ++ 10 ∷ []) (lines_of text) ∙ again_all text ends

-- ---- pieces one after another

pub pieces-ends : (pieces : List (List ℕ)) → All IsOneLine pieces → EndsLine (text_of_pieces pieces)
pieces-ends [] h = refl
pieces-ends (piece ∷ pieces) h =
    EndsLine-append piece (text_of_pieces pieces) (EndsLine-one_line piece (All-head IsOneLine piece pieces h))
    (pieces-ends pieces (All-tail IsOneLine piece pieces h))

nil_lines : lines_of [] ≡ []
unfolding lines_of
nil_lines = refl

-- a piece in front of a text is the first of its pieces
piece_first : (line text : List ℕ) → is_line line ≡ true → pieces_of ((line ++ 10 ∷ []) ++ text) ≡ (line ++ 10 ∷ []) ∷ pieces_of text
piece_first line text h =
    ap pieces_of (append_assoc line (10 ∷ []) text) ∙ ap (map (λ l. l ++ 10 ∷ [])) (lines_of-line line text h)

pub pieces-only : (pieces : List (List ℕ)) → All IsOneLine pieces → pieces_of (text_of_pieces pieces) ≡ pieces
pieces-only [] h = ap (map (λ l. l ++ 10 ∷ [])) nil_lines
pieces-only (piece ∷ pieces) h =
    let s = split piece (All-head IsOneLine piece pieces h) in
    let text = text_of_pieces pieces in
    ap (λ p. pieces_of (p ++ text)) s.1 ∙ piece_first s.0 text s.2
    ∙ ap (λ p. p ∷ pieces_of text) (sym s.1)
    ∙ ap (λ l. piece ∷ l) (pieces-only pieces (All-tail IsOneLine piece pieces h))
