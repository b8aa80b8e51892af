-- Lines of words as they are read again: which words stand in a line, and what numbers and names are as words.
use Rattle.std.proofs.Common.{◌≡◌, ℕ, ℤ, pos, negsuc, suc, ◌<◌, ◌≤◌, ◌^◌, Bool, true, not, ◌&&◌, ltb, leb, List, [], ◌∷◌, ◌++◌, length, map, Some, refl, sym, ap, ◌∙◌, arith, append-nil, append_assoc}
use Rattle.std.specs.Fmt.{decimal, signed_decimal}
use Rattle.std.specs.List.{list_all, join_with_byte}
use Rattle.std.proofs.lemmas.Bool.{false≢true, lt-ltb, and_parts}
use Rattle.std.proofs.lemmas.Bool.Decides.{nat_tests}
use Rattle.std.proofs.lemmas.Int.{ints}
use Rattle.std.proofs.lemmas.List.Folds.{list_all-append}
use Rattle.sd_types.specs.NameWords.{is_letter, is_name_byte, is_name}
use Rattle.sd_types.specs.Works.{short_fits, upri_fits}
use Rattle.sd_text.specs.Lines.{is_newline, is_line}
use Rattle.sd_text.specs.Words.{ends_word, is_word, words_of}
use Rattle.sd_text.specs.Numbers.{signed_of}
use Rattle.sd_text.proofs.LineLemmas.{lines_of-line}
use Rattle.sd_text.proofs.WordLemmas.{words_of-joined}
use Rattle.sd_text.proofs.NumberLemmas.{signed_of-decimal, signed_of-negative, is_word-decimal, is_line-decimal}
use Rattle.sd_dispadmin.specs.TableText.{word_lines}
use Rattle.sd_lines.specs.Words.{Word, Line}
use Rattle.sd_canonical.specs.Canonical.{spaced, words_text, line_text}

-- ---- lines

-- a word that stands in a line
abbrev pub is_plain : Word → Bool
is_plain word = is_word word && is_line word

abbrev pub are_plain : Line → Bool
are_plain words = list_all is_plain words

joined : (words : Line) → words_text words ≡ join_with_byte 32 words
joined [] = refl
joined (word ∷ []) = append-nil word
joined (word ∷ next ∷ words) = ap (λ l. word ++ (32 ∷ l)) (joined (next ∷ words))

are-words : (words : Line) → are_plain words ≡ true → list_all is_word words ≡ true
are-words [] h = refl
are-words (word ∷ words) h =
    let p = and_parts (is_plain word) (are_plain words) h in
    let q = and_parts (is_word word) (is_line word) p.0 in
    rw (q.0, are-words words p.1) refl

spaced-line : (words : Line) → are_plain words ≡ true → is_line (spaced words) ≡ true
spaced-line [] h = refl
spaced-line (word ∷ words) h =
    let p = and_parts (is_plain word) (are_plain words) h in
    let q = and_parts (is_word word) (is_line word) p.0 in
    list_all-append (λ byte. not (is_newline byte)) (32 ∷ word) (spaced words) ∙ rw (q.1, spaced-line words p.1) refl

text-line : (words : Line) → are_plain words ≡ true → is_line (words_text words) ≡ true
text-line [] h = refl
text-line (word ∷ words) h =
    let p = and_parts (is_plain word) (are_plain words) h in
    let q = and_parts (is_word word) (is_line word) p.0 in
    list_all-append (λ byte. not (is_newline byte)) word (spaced words) ∙ rw (q.1, spaced-line words p.1) refl

words-again : (words : Line) → are_plain words ≡ true → words_of (words_text words) ≡ words
unfolding words_of
words-again words h =
    ap words_of (joined words ∙ sym (append-nil (join_with_byte 32 words))) ∙ words_of-joined words [] (are-words words h) refl ∙ append-nil words

-- a line is read as its words
pub line-again : (words : Line) (rest : List ℕ) → are_plain words ≡ true → word_lines (line_text words ++ rest) ≡ words ∷ word_lines rest
line-again words rest h =
    ap word_lines (append_assoc (words_text words) (10 ∷ []) rest)
    ∙ ap (map words_of) (lines_of-line (words_text words) rest (text-line words h))
    ∙ ap (λ l. l ∷ word_lines rest) (words-again words h)

-- ---- names

byte-plain : (b : ℕ) → is_name_byte b ≡ true → (not (ends_word b) ≡ true) × (not (is_newline b) ≡ true)
byte-plain b h = (grind (arith, nat_tests), grind (arith, nat_tests))

bytes-plain : (bs : List ℕ) → list_all is_name_byte bs ≡ true → (list_all (λ b. not (ends_word b)) bs ≡ true) × (is_line bs ≡ true)
bytes-plain [] h = (refl, refl)
bytes-plain (b ∷ bs) h =
    let p = and_parts _ _ h in
    let q = byte-plain b p.0 in
    let r = bytes-plain bs p.1 in
    (rw (q.0) (r.0), rw (q.1) (r.1))

pub name-plain : (name : Word) → is_name name ≡ true → is_plain name ≡ true
name-plain [] h = absurd (false≢true h)
name-plain (b ∷ bs) h =
    let p = and_parts (is_letter b && leb (length (b ∷ bs)) 16) (list_all is_name_byte (b ∷ bs)) h in
    let some : ltb 0 (length (b ∷ bs)) ≡ true = lt-ltb _ _ (omega arith) in
    let q = bytes-plain (b ∷ bs) p.1 in
    rw (some, q.0, q.1) refl

-- ---- numbers

pub number-plain : (n : ℕ) → n < 2 ^ 64 → is_plain (decimal n) ≡ true
number-plain n h = rw (is_word-decimal n h, is_line-decimal n h) refl

-- a negative number is one word too
dashed-plain : (word : Word) → is_plain word ≡ true → is_plain (45 ∷ word) ≡ true
dashed-plain word h =
    let p = and_parts (is_word word) (is_line word) h in
    let q = and_parts (ltb 0 (length word)) (list_all (λ b. not (ends_word b)) word) p.0 in
    let some : ltb 0 (length (45 ∷ word)) ≡ true = lt-ltb _ _ (omega arith) in
    rw (some, q.1, p.1) refl

positive-small : (n : ℕ) → short_fits (pos n) ≡ true → n ≤ 32767
positive-small n h = grind (arith, nat_tests, ints)

negative-small : (n : ℕ) → short_fits (negsuc n) ≡ true → n ≤ 32767
negative-small n h = grind (arith, nat_tests, ints)

pub signed-plain : (z : ℤ) → short_fits z ≡ true → is_plain (signed_decimal z) ≡ true
signed-plain (pos n) h = let small = positive-small n h in number-plain n (omega arith)
signed-plain (negsuc n) h = let small = negative-small n h in dashed-plain (decimal (suc n)) (number-plain (suc n) (omega arith))

pub signed-again : (z : ℤ) → short_fits z ≡ true → signed_of (signed_decimal z) ≡ Some z
signed-again (pos n) h = let small = positive-small n h in signed_of-decimal n (omega arith)
signed-again (negsuc n) h = let small = negative-small n h in signed_of-negative (suc n) (omega arith)

pub upri-short : (z : ℤ) → upri_fits z ≡ true → short_fits z ≡ true
upri-short z h = grind (arith, nat_tests, ints)
