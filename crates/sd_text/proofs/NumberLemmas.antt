-- Reading a number digit by digit.
use Rattle.std.proofs.Common.{◌≡◌, ℕ, zero, suc, ◌+◌, ◌-◌, ◌*◌, ◌/◌, ◌%◌, ◌^◌, ◌<◌, Bool, true, false, not, cond, ◌&&◌, ltb, leb, eqb, Some, pos, neg_ℤ, List, [], ◌∷◌, length, get_or, refl, ap, ◌∙◌, arith}
use Rattle.std.proofs.lemmas.Bool.Decides.{nat_tests}
use Rattle.std.specs.Char.{is_ascii_digit}
use Rattle.std.specs.Str.{all_ascii_digits}
use Rattle.std.specs.Str.Parse.{digits_value}
use Rattle.std.specs.Fmt.{decimal, digits, digits_onto, digit_glyph}
use Rattle.std.specs.Option.{option_map}
use Rattle.std.specs.List.{list_all}
use Rattle.std.proofs.lemmas.Bool.{lt-ltb, le-leb, and_parts}
use Rattle.std.proofs.lemmas.Str.Parse.{IsNumeralModel, numerals_by_value, tells_all_ascii_digits}
use Rattle.std.proofs.lemmas.Fmt.{decimal_nonempty, length-decimal-le, digits_decimal, digits_value-decimal}
use Rattle.sd_text.specs.Lines.{is_newline, is_line}
use Rattle.sd_text.specs.Words.{ends_word, is_word}
use Rattle.sd_text.specs.Numbers.{number_of, signed_of}

-- ---- numbers that were written

pub own : IsNumeralModel (λ ds. all_ascii_digits ds ≡ true) (digits_value 10)
own = numerals_by_value _ tells_all_ascii_digits

pub number_of-decimal : (n : ℕ) → n < 10 ^ 10 → number_of (decimal n) ≡ Some n
unfolding number_of
number_of-decimal n small =
    let h : n < 2 ^ 64 = omega arith in
    let some : ltb 0 (length (decimal n)) ≡ true = lt-ltb _ _ (decimal_nonempty n h) in
    let short : leb (length (decimal n)) 10 ≡ true = le-leb _ _ (length-decimal-le 10 n (omega arith) small h) in
    rw (some, short, digits_decimal own n h, digits_value-decimal own n h) refl

first-digit : (ds : List ℕ) → all_ascii_digits ds ≡ true → 0 < length ds → eqb (get_or ds 0 0) 45 ≡ false
first-digit [] h some = refl
first-digit (d ∷ ds) h some = let p : is_ascii_digit d ≡ true = (and_parts _ _ h).0 in grind (arith, nat_tests)

pub signed_of-decimal : (n : ℕ) → n < 10 ^ 10 → signed_of (decimal n) ≡ Some (pos n)
unfolding signed_of
signed_of-decimal n small =
    let h : n < 2 ^ 64 = omega arith in
    rw (first-digit (decimal n) (digits_decimal own n h) (decimal_nonempty n h)) (ap (option_map pos) (number_of-decimal n small))

pub signed_of-negative : (n : ℕ) → n < 10 ^ 10 → signed_of (45 ∷ decimal n) ≡ Some (neg_ℤ (pos n))
unfolding signed_of
signed_of-negative n small = ap (option_map (λ k. neg_ℤ (pos k))) (number_of-decimal n small)

digit-plain : (d : ℕ) → is_ascii_digit d ≡ true → (ends_word d ≡ false) × (is_newline d ≡ false)
digit-plain d h = (grind (arith, nat_tests), grind (arith, nat_tests))

digits-plain : (ds : List ℕ) → all_ascii_digits ds ≡ true → list_all (λ byte. not (ends_word byte)) ds ≡ true
digits-plain [] h = refl
digits-plain (d ∷ ds) h = let p = and_parts _ _ h in rw ((digit-plain d p.0).0) (digits-plain ds p.1)

digits-line : (ds : List ℕ) → all_ascii_digits ds ≡ true → is_line ds ≡ true
digits-line [] h = refl
digits-line (d ∷ ds) h = let p = and_parts _ _ h in rw ((digit-plain d p.0).1) (digits-line ds p.1)

pub is_word-decimal : (n : ℕ) → n < 2 ^ 64 → is_word (decimal n) ≡ true
is_word-decimal n h =
    let some : ltb 0 (length (decimal n)) ≡ true = lt-ltb _ _ (decimal_nonempty n h) in
    rw (some, digits-plain (decimal n) (digits_decimal own n h)) refl

pub is_line-decimal : (n : ℕ) → n < 2 ^ 64 → is_line (decimal n) ≡ true
is_line-decimal n h = digits-line (decimal n) (digits_decimal own n h)

-- ---- of any number, also one that no type of the program holds

glyph-line : (d : ℕ) → d < 10 → is_newline (digit_glyph false d) ≡ false
glyph-line d h = grind (arith, nat_tests)

either-line : (b : Bool) (xs ys : List ℕ) → is_line xs ≡ true → is_line ys ≡ true → is_line (cond b xs ys) ≡ true
either-line true xs ys p q = p
either-line false xs ys p q = q

glyphs-line : (k n : ℕ) (below : List ℕ) → is_line below ≡ true → is_line (digits_onto k 10 false n below) ≡ true
glyphs-line zero n below h = h
glyphs-line (suc k) n below h =
    let here = glyph-line (n % 10) (omega arith) in
    let more : is_line (digit_glyph false (n % 10) ∷ below) ≡ true = rw here h in
    either-line (eqb (n / 10) 0) _ _ more (glyphs-line k (n / 10) (digit_glyph false (n % 10) ∷ below) more)

pub decimal-line : (n : ℕ) → is_line (decimal n) ≡ true
unfolding digits
decimal-line n = glyphs-line 64 n [] refl
