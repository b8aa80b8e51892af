-- Texts that end with a newline, and the lines of one.
use Rattle.std.proofs.Common.{◌≡◌, ℕ, ◌+◌, ◌-◌, ◌<◌, ◌≤◌, List, [], ◌∷◌, ◌++◌, length, take, drop, Option, Some, sym, ap, ◌∙◌, subst, arith, length-drop, length-take-le}
use Rattle.std.specs.Prelude.{slice_range}
use Rattle.std.specs.List.{last_or, position_or_len}
use Rattle.sd_text.specs.Lines.{EndsLine, IsOneLine, is_newline, lines_of}
use Rattle.sd_text.proofs.LineLemmas.{lines-first}
use Rattle.sd_text.proofs.PieceLemmas.{EndsLine-drop, first-one_line}
use Rattle.sd_answers.proofs.CutLemmas.{head_same}

-- the last byte is a newline, and there is one, whatever stands in front
abbrev pub Closes : List ℕ → Type 0
Closes text = (o : Option ℕ) → last_or o text ≡ Some 10

pub closes-behind : (xs ys : List ℕ) → Closes ys → Closes (xs ++ ys)
closes-behind [] ys h = h
closes-behind (x ∷ xs) ys h = λ o. closes-behind xs ys h (Some x)

-- such a text is one of whole lines
pub closed : (text : List ℕ) → Closes text → EndsLine text
closed text h = h (Some 10)

pub ends-behind : (xs ys : List ℕ) → Closes ys → EndsLine (xs ++ ys)
ends-behind xs ys h = closes-behind xs ys h (Some 10)

-- ---- the line that begins at an index

-- there is one
pub some_line : {P : Type 0} (text : List ℕ) (from : ℕ) → from < length text → lines_of (drop from text) ≡ [] → P
some_line text from inside none =
    let xs = drop from text in
    let first = lines-first xs (omega (arith, length-drop from text)) in
    absurd (nothing (take (position_or_len is_newline xs) xs) (lines_of (drop (position_or_len is_newline xs + 1) xs)) (sym none ∙ first))
  where
    nothing : (line : List ℕ) (lines : List (List ℕ)) → [] ≡ line ∷ lines → ⊥
    nothing line lines e = cc

-- its newline stands in the text, and with it the line is one
pub whole_line : (text : List ℕ) (from start newline : ℕ) → from < length text → EndsLine text
    → lines_of (drop from text) ≡ slice_range text start newline ∷ lines_of (drop (newline + 1) text) → start ≡ from → from ≤ newline → newline ≤ length text
    → (newline < length text) × IsOneLine (slice_range text from (newline + 1))
whole_line text from start newline inside ends line begin after within =
    let xs = drop from text in
    let n = position_or_len is_newline xs in
    let long : length xs ≡ length text - from = length-drop from text in
    let found = first-one_line xs (omega (arith, long)) (EndsLine-drop text from ends) in
    let cut : take n xs ≡ take (newline - from) xs =
    head_same (take n xs) (take (newline - from) xs) _ _
    (sym (lines-first xs (omega (arith, long))) ∙ line ∙ ap (λ k. slice_range text k newline ∷ lines_of (drop (newline + 1) text)) begin) in
    let here : n ≡ newline - from =
    sym (length-take-le n xs (omega (arith, found.0))) ∙ ap length cut ∙ length-take-le (newline - from) xs (omega (arith, long)) in
    let last : n + 1 ≡ newline + 1 - from = omega (arith, here) in
    (omega (arith, here, found.0, long), subst (λ k. IsOneLine (take k xs)) last found.1)
