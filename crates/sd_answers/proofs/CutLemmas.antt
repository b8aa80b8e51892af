-- The lines before a byte, and the cut.
use Rattle.std.proofs.Common.{◌≡◌, ◌≢◌, ℕ, ◌+◌, ◌-◌, ◌<◌, ◌≤◌, true, min, List, [], ◌∷◌, ◌++◌, length, take, drop, get_or, append_assoc, append-nil, ◌⊎◌, inl, inr, refl, sym, ap, subst, ◌∙◌, arith, drop-drop}
use Rattle.std.proofs.lemmas.Bool.{and_parts}
use Rattle.std.specs.Prelude.{codes}
use Rattle.std.specs.List.{All, list_all}
use Rattle.std.proofs.lemmas.List.{take-append-drop, drop_more, drop_all, drop_min, append_cancel_left, append_cancel_right, length-append}
use Rattle.std.proofs.lemmas.List.Elements.{All-nil, All-push, All-head, All-tail}
use Rattle.std.proofs.lemmas.List.Folds.{list_all-append}
use Rattle.std.proofs.lemmas.Grind.{flat_map-append}
use Rattle.std.proofs.Math.Nat.{eq-or-lt_of_le}
use Rattle.sd_text.specs.Lines.{lines_of, is_line, text_of_lines}
use Rattle.sd_text.proofs.LineLemmas.{are_lines, lines_of-text}
use Rattle.sd_answers.specs.Cuts.{HasNoJournal, IsCut}
use Rattle.sd_answers.specs.Passing.{HasPassed}

-- no line but `journal`
abbrev IsOther : List ℕ → Type 0
IsOther line = line ≢ codes "journal"

-- what stands from a line on is the line and what stands from its end on
from_line : (text line : List ℕ) (from end : ℕ) → from ≤ end → line ≡ take (end - from) (drop from text) → drop from text ≡ line ++ drop end text
from_line text line from end within is =
    let e : from + (end - from) ≡ end = omega arith in
    sym (take-append-drop (end - from) (drop from text))
    ∙ ap (λ (l : List ℕ). l ++ drop (end - from) (drop from text)) (sym is)
    ∙ ap (λ (l : List ℕ). line ++ l) (drop-drop (end - from) from text ∙ ap (λ (n : ℕ). drop n text) e)

-- a newline and the next line
from_newline : (text : List ℕ) (end : ℕ) → end < length text → get_or text end 0 ≡ 10 → drop end text ≡ 10 ∷ drop (end + 1) text
from_newline text end inside newline = drop_more text end 0 inside ∙ ap (λ (b : ℕ). b ∷ drop (end + 1) text) newline

lines_push : (lines : List (List ℕ)) (line : List ℕ) → text_of_lines (lines ++ line ∷ []) ≡ text_of_lines lines ++ (line ++ 10 ∷ [])
lines_push lines line = flat_map-append (λ (l : List ℕ). l ++ 10 ∷ []) lines (line ∷ []) ∙ ap (λ (l : List ℕ). text_of_lines lines ++ l) (append-nil (line ++ 10 ∷ []))

head_is_line : (text line : List ℕ) (rest : List (List ℕ)) → lines_of text ≡ line ∷ rest → is_line line ≡ true
head_is_line text line rest next = (and_parts (is_line line) (list_all is_line rest) (sym (ap (list_all is_line) next) ∙ are_lines text)).0

-- one line more
pub passed_more : (text line : List ℕ) (from end : ℕ) → HasPassed text from → lines_of (drop from text) ≡ line ∷ lines_of (drop (end + 1) text)
    → from ≤ end → (end < length text → get_or text end 0 ≡ 10) → line ≡ take (end - from) (drop from text) → line ≢ codes "journal" → HasPassed text (end + 1)
passed_more text line from end r next within newline is other = record {
  lines = r.lines ++ line ∷ [];
  are_lines = list_all-append is_line r.lines (line ∷ []) ∙ rw (r.are_lines, head_is_line (drop from text) line (lines_of (drop (end + 1) text)) next) refl;
  none = All-push IsOther r.lines line r.none other;
  told =
      r.told ∙ ap (λ (ls : List (List ℕ)). r.lines ++ ls) next ∙ sym (append_assoc r.lines (line ∷ []) (lines_of (drop (end + 1) text)));
  parts = λ h.
      r.parts (omega (arith, h, within))
      ∙ ap (λ (l : List ℕ). text_of_lines r.lines ++ l) (from_line text line from end within is ∙ ap (λ (l : List ℕ). line ++ l) (from_newline text end (omega (arith, h)) (newline (omega (arith, h))))
      ∙ sym (append_assoc line (10 ∷ []) (drop (end + 1) text)))
      ∙ sym (append_assoc (text_of_lines r.lines) (line ++ 10 ∷ []) (drop (end + 1) text))
      ∙ ap (λ (l : List ℕ). l ++ drop (end + 1) text) (sym (lines_push r.lines line));
}

lines_again : (lines : List (List ℕ)) → list_all is_line lines ≡ true → lines_of (text_of_lines lines) ≡ lines
unfolding lines_of
lines_again lines h = ap lines_of (sym (append-nil (text_of_lines lines))) ∙ lines_of-text lines [] h ∙ append-nil lines

module _ (text : List ℕ) (from end : ℕ) (r : HasPassed text from) (within : from ≤ end) (inside : end ≤ length text)
    (newline : end < length text → get_or text end 0 ≡ 10) (is : codes "journal" ≡ take (end - from) (drop from text)) where
  before_is : take from text ≡ text_of_lines r.lines
  before_is = append_cancel_right (take from text) (text_of_lines r.lines) (drop from text) (take-append-drop from text ∙ r.parts (omega (arith, within, inside)))

  its_lines : lines_of (take from text) ≡ r.lines
  its_lines = ap lines_of before_is ∙ lines_again r.lines r.are_lines

  after_is : drop (min (end + 1) (length text)) text ≡ drop (end + 1) text
  after_is = drop_min (end + 1) text

  text_is : text ≡ take from text ++ (codes "journal" ++ drop end text)
  text_is = sym (take-append-drop from text) ∙ ap (λ (l : List ℕ). take from text ++ l) (from_line text (codes "journal") from end within is)

  its_parts : (end ≡ length text) ⊎ (end < length text)
      → (text ≡ take from text ++ (codes "journal\n" ++ drop (min (end + 1) (length text)) text))
      ⊎ ((text ≡ take from text ++ codes "journal") × (drop (min (end + 1) (length text)) text ≡ []))
  its_parts (inl last) = inr (
    text_is ∙ ap (λ (l : List ℕ). take from text ++ (codes "journal" ++ l)) (drop_all end text (omega (arith, last))) ∙ ap (λ (l : List ℕ). take from text ++ l) (append-nil (codes "journal")),
    after_is ∙ drop_all (end + 1) text (omega (arith, last)),
  )
  its_parts (inr more) = inl (
      text_is
      ∙ ap (λ (l : List ℕ). take from text ++ (codes "journal" ++ l)) (from_newline text end more (newline more) ∙ ap (λ (l : List ℕ). 10 ∷ l) (sym after_is)))

  -- the text is cut at this line
  pub cut_here : IsCut text (take from text) (drop (min (end + 1) (length text)) text)
  cut_here = record {
    first = subst (λ (ls : List (List ℕ)). All IsOther ls) (sym its_lines) r.none;
    whole = ap text_of_lines its_lines ∙ sym before_is;
    parts = its_parts (eq-or-lt_of_le inside);
  }

-- ---- a text is cut in one way

only_line : lines_of (codes "journal") ≡ codes "journal" ∷ []
unfolding lines_of
only_line = refl

-- the lines of a text that is cut
cut_lines : (text before after : List ℕ) → IsCut text before after → (rest : List (List ℕ)) × (lines_of text ≡ lines_of before ++ codes "journal" ∷ rest)
cut_lines text before after c = elim c.parts as (λ _. (rest : List (List ℕ)) × (lines_of text ≡ lines_of before ++ codes "journal" ∷ rest)) [
  | inl whole ↦ (
    lines_of after,
    ap lines_of (whole ∙ ap (λ (l : List ℕ). l ++ (codes "journal\n" ++ after)) (sym c.whole))
        ∙ lines_of-text (lines_of before) (codes "journal\n" ++ after) (are_lines before)
        ∙ ap (λ (ls : List (List ℕ)). lines_of before ++ ls) (lines_of-text (codes "journal" ∷ []) after refl),
  )
  | inr last ↦ (
    [],
    ap lines_of (last.0 ∙ ap (λ (l : List ℕ). l ++ codes "journal") (sym c.whole))
        ∙ lines_of-text (lines_of before) (codes "journal") (are_lines before)
        ∙ ap (λ (ls : List (List ℕ)). lines_of before ++ ls) only_line,
  )
]

pub head_same : (x y : List ℕ) (xs ys : List (List ℕ)) → x ∷ xs ≡ y ∷ ys → x ≡ y
head_same x y xs ys e = cc

tail_same : (x y : List ℕ) (xs ys : List (List ℕ)) → x ∷ xs ≡ y ∷ ys → xs ≡ ys
tail_same x y xs ys e = cc

-- the parts before the first line that is the word are the same
firsts_same : (xs ys us vs : List (List ℕ)) → All IsOther xs → All IsOther ys → xs ++ codes "journal" ∷ us ≡ ys ++ codes "journal" ∷ vs → xs ≡ ys
firsts_same [] [] us vs p q same = refl
firsts_same [] (y ∷ ys) us vs p q same = absurd (All-head IsOther y ys q (sym (head_same (codes "journal") y us (ys ++ codes "journal" ∷ vs) same)))
firsts_same (x ∷ xs) [] us vs p q same = absurd (All-head IsOther x xs p (head_same x (codes "journal") (xs ++ codes "journal" ∷ us) vs same))
firsts_same (x ∷ xs) (y ∷ ys) us vs p q same =
    ap (λ (l : List ℕ). l ∷ xs) (head_same x y (xs ++ codes "journal" ∷ us) (ys ++ codes "journal" ∷ vs) same)
    ∙ ap (λ (ls : List (List ℕ)). y ∷ ls) (firsts_same xs ys us vs (All-tail IsOther x xs p) (All-tail IsOther y ys q) (tail_same x y (xs ++ codes "journal" ∷ us) (ys ++ codes "journal" ∷ vs) same))

longer : (xs : List ℕ) → codes "journal\n" ++ xs ≡ codes "journal" → ⊥
longer xs e = let n = ap length e in let m = length-append (codes "journal\n") xs in absurd (omega (arith, n, m))

module _ (text a b c d : List ℕ) (p : IsCut text a b) (q : IsCut text c d) where
  pub before_same : a ≡ c
  before_same =
      let f = cut_lines text a b p in
      let g = cut_lines text c d q in
      sym p.whole ∙ ap text_of_lines (firsts_same (lines_of a) (lines_of c) f.0 g.0 p.first q.first (sym f.1 ∙ g.1)) ∙ q.whole

  behind_same : (text ≡ a ++ (codes "journal\n" ++ b)) ⊎ ((text ≡ a ++ codes "journal") × (b ≡ []))
      → (text ≡ a ++ (codes "journal\n" ++ d)) ⊎ ((text ≡ a ++ codes "journal") × (d ≡ [])) → b ≡ d
  behind_same (inl x) (inl y) = append_cancel_left (codes "journal\n") b d (append_cancel_left a (codes "journal\n" ++ b) (codes "journal\n" ++ d) (sym x ∙ y))
  behind_same (inl x) (inr y) = absurd (longer b (append_cancel_left a (codes "journal\n" ++ b) (codes "journal") (sym x ∙ y.0)))
  behind_same (inr x) (inl y) = absurd (longer d (append_cancel_left a (codes "journal\n" ++ d) (codes "journal") (sym y ∙ x.0)))
  behind_same (inr x) (inr y) = x.1 ∙ sym y.1

  pub after_same : b ≡ d
  after_same =
      behind_same p.parts
      (subst (λ (l : List ℕ). (text ≡ l ++ (codes "journal\n" ++ d)) ⊎ ((text ≡ l ++ codes "journal") × (d ≡ []))) (sym before_same) q.parts)

-- the word is one of the lines
not_there : (xs us : List (List ℕ)) → All IsOther (xs ++ codes "journal" ∷ us) → ⊥
not_there [] us h = All-head IsOther (codes "journal") us h refl
not_there (x ∷ xs) us h = not_there xs us (All-tail IsOther x (xs ++ codes "journal" ∷ us) h)

pub none_cut : (text a b : List ℕ) → HasNoJournal text → IsCut text a b → ⊥
none_cut text a b none c =
    let f = cut_lines text a b c in
    not_there (lines_of a) f.0 (subst (λ (ls : List (List ℕ)). All IsOther ls) f.1 none)
