-- The lines of a text to which lines are appended.
use Rattle.std.proofs.Common.{◌≡◌, ℕ, Bool, true, List, [], ◌∷◌, ◌++◌, map, refl, sym, ap, ◌∙◌, append_assoc}
use Rattle.std.proofs.lemmas.Bool.{and_parts}
use Rattle.std.specs.List.{list_all}
use Rattle.std.proofs.lemmas.List.{map-append}
use Rattle.std.proofs.lemmas.List.Folds.{list_all-append}
use Rattle.sd_text.specs.Lines.{lines_of, is_line}
use Rattle.sd_text.specs.Words.{words_of}
use Rattle.sd_text.proofs.LineLemmas.{lines_of-line, are_lines}
use Rattle.sd_dispadmin.specs.TableText.{word_lines}

-- what follows a text begins on a line of its own
abbrev pub IsClosed : List ℕ → Type 0
IsClosed text = (rest : List ℕ) → lines_of (text ++ rest) ≡ lines_of text ++ lines_of rest

pub closed-nil : IsClosed []
unfolding lines_of
closed-nil = λ rest. refl

-- what is the first line of a text has no newline
pub is_line-first : (text rest line : List ℕ) → lines_of text ≡ line ∷ lines_of rest → is_line line ≡ true
is_line-first text rest line e = (and_parts (is_line line) (list_all is_line (lines_of rest)) (sym (ap (list_all is_line) e) ∙ are_lines text)).0

line-alone : (line : List ℕ) → is_line line ≡ true → lines_of (line ++ 10 ∷ []) ≡ line ∷ []
unfolding lines_of
line-alone line h = lines_of-line line [] h

pub lines-push : (text line new : List ℕ) → IsClosed text → is_line line ≡ true → new ≡ text ++ (line ++ 10 ∷ []) → lines_of new ≡ lines_of text ++ line ∷ []
lines-push text line new closed h e = ap lines_of e ∙ closed (line ++ 10 ∷ []) ∙ ap (λ l. lines_of text ++ l) (line-alone line h)

pub closed-push : (text line new : List ℕ) → IsClosed text → is_line line ≡ true → new ≡ text ++ (line ++ 10 ∷ []) → IsClosed new
closed-push text line new closed h e = λ rest.
    let whole : new ++ rest ≡ text ++ (line ++ 10 ∷ rest) = rw e (simp append_assoc) in
    ap lines_of whole ∙ closed (line ++ 10 ∷ rest) ∙ ap (λ l. lines_of text ++ l) (lines_of-line line rest h)
    ∙ sym (ap (λ l. l ++ lines_of rest) (lines-push text line new closed h e) ∙ append_assoc (lines_of text) (line ∷ []) (lines_of rest))

pub word_lines-push : (text line new : List ℕ) → IsClosed text → is_line line ≡ true → new ≡ text ++ (line ++ 10 ∷ []) → word_lines new ≡ word_lines text ++ words_of line ∷ []
word_lines-push text line new closed h e = ap (map words_of) (lines-push text line new closed h e) ∙ map-append words_of (lines_of text) (line ∷ [])

pub no-lines : (text : List ℕ) → text ≡ [] → word_lines text ≡ []
unfolding lines_of
no-lines text e = ap word_lines e

pub all-push : {X : Type 0} (p : X → Bool) (xs : List X) (x : X) → list_all p xs ≡ true → p x ≡ true → list_all p (xs ++ x ∷ []) ≡ true
all-push p xs x all here = list_all-append p xs (x ∷ []) ∙ rw (all, here) refl
