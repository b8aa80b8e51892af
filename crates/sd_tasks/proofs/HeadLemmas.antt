-- The words before the options of a line are read again as they were.
use Rattle.std.proofs.Common.{◌≡◌, ℕ, Bool, true, false, not, ◌&&◌, cond, get_or, List, [], ◌∷◌, ◌++◌, refl, sym, ap, ◌∙◌}
use Rattle.std.specs.List.{list_all}
use Rattle.std.proofs.lemmas.Bool.{and_parts}
use Rattle.sd_text.specs.Words.{ends_word, is_word, words_of}
use Rattle.sd_text.proofs.LineLemmas.{drop-one_more}
use Rattle.sd_text.proofs.WordLemmas.{are_words, blanks, words-blanks, words_of-word}
use Rattle.sd_lines.specs.Words.{Line}
use Rattle.sd_tasks.specs.Forms.{begins_options, head_of}
use Rattle.sd_tasks.specs.Written.{spaced}

-- a blank before the words is none of them
word-blank : (rest : List ℕ) → words_of (32 ∷ rest) ≡ words_of rest
word-blank rest = words-blanks (32 ∷ rest) ∙ ap words_of (drop-one_more (blanks rest) 32 rest) ∙ sym (words-blanks rest)

-- a word ends before these
spaced-ends : (words : Line) → ends_word (get_or (spaced words) 0 32) ≡ true
spaced-ends [] = refl
spaced-ends (word ∷ words) = refl

pub spaced-again : (words : Line) → list_all is_word words ≡ true → words_of (spaced words) ≡ words
unfolding words_of
spaced-again [] h = refl
spaced-again (word ∷ words) h =
    let p = and_parts (is_word word) (list_all is_word words) h in
    word-blank (word ++ spaced words) ∙ words_of-word word (spaced words) p.0 (spaced-ends words) ∙ ap (λ (ws : Line). word ∷ ws) (spaced-again words p.1)

head-cut : (b : Bool) (word : List ℕ) (words : Line) → is_word word ≡ true → list_all is_word words ≡ true → list_all is_word (cond b [] (word ∷ words)) ≡ true
head-cut true word words h more = refl
head-cut false word words h more = ap (λ (t : Bool). t && list_all is_word words) h ∙ more

head-words : (words : Line) → list_all is_word words ≡ true → list_all is_word (head_of words) ≡ true
unfolding head_of
head-words [] h = refl
head-words (word ∷ words) h =
    let p = and_parts (is_word word) (list_all is_word words) h in
    head-cut (begins_options (word ∷ words)) word (head_of words) p.0 (head-words words p.1)

pub head-again : (line : List ℕ) → words_of (spaced (head_of (words_of line))) ≡ head_of (words_of line)
head-again line = spaced-again (head_of (words_of line)) (head-words (words_of line) (are_words line))
