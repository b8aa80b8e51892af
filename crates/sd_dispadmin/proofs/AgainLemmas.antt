-- The text that is written of a table spells it.
use Rattle.std.proofs.Common.{◌≡◌, ℕ, zero, suc, ◌+◌, ◌<◌, ◌≤◌, ◌^◌, Bool, true, false, not, ◌&&◌, ◌||◌, cond, ltb, eqb, nat_eq, nat_le, nat_lt, List, [], ◌∷◌, length, take, map, filter, get_or, Option, Some, None, is_none, option_map, unwrap_or, refl, sym, ap, ◌∙◌, subst, arith}
use Rattle.std.specs.List.{list_all, join_with_byte}
use Rattle.std.specs.Fmt.{decimal}
use Rattle.std.specs.Char.{is_ascii_digit}
use Rattle.std.specs.Str.{all_ascii_digits}
use Rattle.std.specs.Str.Parse.{digits_value}
use Rattle.std.proofs.lemmas.List.{append-nil, length-map}
use Rattle.std.proofs.lemmas.List.Folds.{list_all-append}
use Rattle.std.proofs.lemmas.Bool.{lt-ltb, and_parts}
use Rattle.std.proofs.lemmas.Bool.Decides.{nat_tests}
use Rattle.std.proofs.lemmas.Fmt.{digits_decimal, digits_value-decimal}
use Rattle.sd_text.specs.Lines.{is_newline, is_line, lines_of, text_of_lines}
use Rattle.sd_text.specs.Words.{is_word, words_of}
use Rattle.sd_text.specs.Numbers.{is_number, number_of}
use Rattle.sd_text.proofs.LineLemmas.{lines_of-text}
use Rattle.sd_text.proofs.WordLemmas.{words_of-word, words_of-joined}
use Rattle.sd_text.proofs.NumberLemmas.{number_of-decimal, is_word-decimal, is_line-decimal, own}
use Rattle.sd_dispadmin.specs.declared.columns.Column.{Column}
use Rattle.sd_dispadmin.specs.declared.fault.TableFault.TheVariants.{Range, Resolution}
use Rattle.sd_dispadmin.specs.TableText.{Line, Format, word_lines, is_res_word, is_res_line, is_row_line, is_unit, res_of_word, res_of_line, res_fault, numbers_of, column_outside, is_within, row_fault, line_fault, fault_at, AreClean, rows_in, res_in, IsTableText}
use Rattle.sd_dispadmin.specs.TableSpelling.{res_text, row_text, row_texts, table_text}

-- numbers that are written with at most ten digits
abbrev pub is_small : List ℕ → Bool
is_small numbers = list_all (λ n. nat_lt n 10000000000) numbers

small : (n : ℕ) → nat_lt n 10000000000 ≡ true → (n < 10 ^ 10) × (n < 2 ^ 64)
small n h = let below : n < 10000000000 = grind (arith, nat_tests) in (omega arith, omega arith)

-- ---- lines

joined-line : (numbers : List ℕ) → is_small numbers ≡ true → is_line (join_with_byte 32 (map decimal numbers)) ≡ true
joined-line [] h = refl
joined-line (n ∷ []) h = let p = and_parts (nat_lt n 10000000000) _ h in is_line-decimal n (small n p.0).1
joined-line (n ∷ m ∷ ns) h =
    let p = and_parts (nat_lt n 10000000000) _ h in
    list_all-append (λ byte. not (is_newline byte)) (decimal n) (32 ∷ join_with_byte 32 (map decimal (m ∷ ns)))
    ∙ rw (is_line-decimal n (small n p.0).1) (joined-line (m ∷ ns) p.1)

row_text-line : (numbers : List ℕ) (level : ℕ) → is_small numbers ≡ true → level < 2 ^ 64 → is_line (row_text numbers level) ≡ true
unfolding row_text
row_text-line numbers level h l =
    list_all-append (λ byte. not (is_newline byte)) (join_with_byte 32 (map decimal numbers)) (32 ∷ 35 ∷ 32 ∷ decimal level)
    ∙ rw (joined-line numbers h) (is_line-decimal level l)

row_texts-lines : (rows : List (List ℕ)) (level : ℕ) → list_all is_small rows ≡ true → level + length rows < 2 ^ 64 → list_all is_line (row_texts rows level) ≡ true
row_texts-lines [] level h l = refl
row_texts-lines (row ∷ rows) level h l =
    let p = and_parts (is_small row) _ h in
    rw (row_text-line row level p.0 (omega arith)) (row_texts-lines rows (level + 1) p.1 (omega arith))

-- ---- words

decimals-words : (numbers : List ℕ) → is_small numbers ≡ true → list_all is_word (map decimal numbers) ≡ true
decimals-words [] h = refl
decimals-words (n ∷ ns) h = let p = and_parts (nat_lt n 10000000000) _ h in rw (is_word-decimal n (small n p.0).1) (decimals-words ns p.1)

row_text-words : (numbers : List ℕ) (level : ℕ) → is_small numbers ≡ true → words_of (row_text numbers level) ≡ map decimal numbers
unfolding row_text words_of
row_text-words numbers level h =
    words_of-joined (map decimal numbers) (32 ∷ 35 ∷ 32 ∷ decimal level) (decimals-words numbers h) refl
    ∙ append-nil (map decimal numbers)

row_texts-words : (rows : List (List ℕ)) (level : ℕ) → list_all is_small rows ≡ true → map words_of (row_texts rows level) ≡ map (map decimal) rows
row_texts-words [] level h = refl
row_texts-words (row ∷ rows) level h =
    let p = and_parts (is_small row) _ h in
    ap (λ l. words_of (row_text row level) ∷ l) (row_texts-words rows (level + 1) p.1) ∙ ap (λ w. w ∷ map (map decimal) rows) (row_text-words row level p.0)

res_text-word : (res : ℕ) → res < 2 ^ 64 → is_word (res_text res) ≡ true
res_text-word res h =
    let plain = (and_parts (ltb 0 (length (decimal res))) _ (is_word-decimal res h)).1 in
    let long : ltb 0 (length (res_text res)) ≡ true = lt-ltb _ _ (omega arith) in
    rw long plain

-- the lines of a written table, as their words
lines_again : (res : ℕ) (rows : List (List ℕ)) → res < 2 ^ 64 → list_all is_small rows ≡ true → length rows < 2 ^ 63
    → word_lines (table_text res rows) ≡ (res_text res ∷ []) ∷ map (map decimal) rows
unfolding lines_of words_of
lines_again res rows h smalls short =
    let lines = res_text res ∷ row_texts rows 0 in
    let ok : list_all is_line lines ≡ true = rw (is_line-decimal res h) (row_texts-lines rows 0 smalls (omega arith)) in
    let cut : lines_of (table_text res rows) ≡ lines = sym (ap lines_of (append-nil (text_of_lines lines))) ∙ lines_of-text lines [] ok ∙ append-nil lines in
    let first : words_of (res_text res) ≡ res_text res ∷ [] =
    sym (ap words_of (append-nil (res_text res))) ∙ words_of-word (res_text res) [] (res_text-word res h) refl in
    ap (map words_of) cut ∙ ap (λ l. words_of (res_text res) ∷ l) (row_texts-words rows 0 smalls) ∙ ap (λ w. w ∷ map (map decimal) rows) first

-- ---- kinds of lines

res_word : (digits : List ℕ) → is_res_word (82 ∷ 69 ∷ 83 ∷ 61 ∷ digits) ≡ true
unfolding is_res_word
res_word digits = refl

no_res_word : (digits : List ℕ) → all_ascii_digits digits ≡ true → is_res_word digits ≡ false
unfolding is_res_word
no_res_word [] h = refl
no_res_word (d ∷ ds) h =
    let digit : is_ascii_digit d ≡ true = (and_parts (is_ascii_digit d) _ h).0 in
    let other : eqb d 82 ≡ false = grind (arith, nat_tests) in
    rw other refl

no_res_number : (n : ℕ) → nat_lt n 10000000000 ≡ true → is_res_word (decimal n) ≡ false
no_res_number n h = no_res_word (decimal n) (digits_decimal own n (small n h).1)

-- a row that was written is a row
written_row : (row : List ℕ) → 0 < length row → is_small row ≡ true → (is_res_line (map decimal row) ≡ false) × (is_row_line (map decimal row) ≡ true)
written_row [] some h = absurd (omega arith)
written_row (n ∷ ns) some h =
    let e = no_res_number n (and_parts (nat_lt n 10000000000) _ h).0 in (e, ap not e)

-- rows of as many numbers as there are columns, each within its column
abbrev pub are_rows : List Column → List (List ℕ) → Bool
are_rows columns rows = list_all (λ row. is_within columns row && is_small row) rows

has_some : (columns : List Column) (row : List ℕ) → 0 < length columns → is_within columns row ≡ true → 0 < length row
has_some columns row some h =
    let e : nat_eq (length row) (length columns) ≡ true = (and_parts (nat_eq (length row) (length columns)) _ h).0 in grind (arith, nat_tests)

rows-kept : (columns : List Column) (rows : List (List ℕ)) → 0 < length columns → are_rows columns rows ≡ true
    → (filter is_row_line (map (map decimal) rows) ≡ map (map decimal) rows) × (filter is_res_line (map (map decimal) rows) ≡ [])
rows-kept columns [] some h = (refl, refl)
rows-kept columns (row ∷ rows) some h =
    let p = and_parts (is_within columns row && is_small row) _ h in
    let q = and_parts (is_within columns row) _ p.0 in
    let kind = written_row row (has_some columns row some q.0) q.1 in
    let rest = rows-kept columns rows some p.1 in
    (rw (kind.1) (ap (λ l. map decimal row ∷ l) rest.0), rw (kind.0) rest.1)

numbers-again : (row : List ℕ) → is_small row ≡ true → numbers_of (map decimal row) ≡ row
numbers-again [] h = refl
numbers-again (n ∷ ns) h =
    let p = and_parts (nat_lt n 10000000000) _ h in
    ap (λ l. digits_value 10 (decimal n) ∷ l) (numbers-again ns p.1) ∙ ap (λ m. m ∷ ns) (digits_value-decimal own n (small n p.0).1)

rows-again : (columns : List Column) (rows : List (List ℕ)) → are_rows columns rows ≡ true → map numbers_of (map (map decimal) rows) ≡ rows
rows-again columns [] h = refl
rows-again columns (row ∷ rows) h =
    let p = and_parts (is_within columns row && is_small row) _ h in
    ap (λ l. numbers_of (map decimal row) ∷ l) (rows-again columns rows p.1) ∙ ap (λ r. r ∷ rows) (numbers-again row (and_parts (is_within columns row) _ p.0).1)

-- ---- faults

chosen-true : (b : Bool) (v n : ℕ) → cond b (Some v) None ≡ Some n → b ≡ true
chosen-true true v n h = refl
chosen-true false v n h = cc

numbers-are : (row : List ℕ) → is_small row ≡ true → list_all is_number (map decimal row) ≡ true
unfolding number_of
numbers-are [] h = refl
numbers-are (n ∷ ns) h =
    let p = and_parts (nat_lt n 10000000000) _ h in
    rw (chosen-true (is_number (decimal n)) _ n (number_of-decimal n (small n p.0).0)) (numbers-are ns p.1)

no_column : (number : ℕ) (o : Option ℕ) → is_none o ≡ true → option_map (λ column. Range number (column + 1)) o ≡ None
no_column number None h = refl
no_column number (Some column) h = cc

row_fault-again : (columns : List Column) (row : List ℕ) (number : ℕ) → is_within columns row ≡ true → is_small row ≡ true
    → row_fault columns (map decimal row) number ≡ None
row_fault-again columns row number within h =
    let p = and_parts (nat_eq (length row) (length columns)) _ within in
    let count : nat_eq (length (map decimal row)) (length columns) ≡ true = ap (λ n. nat_eq n (length columns)) (length-map row decimal) ∙ p.0 in
    rw (count, numbers-are row h) (ap (λ numbers. option_map (λ column. Range number (column + 1)) (column_outside columns numbers)) (numbers-again row h) ∙ no_column number (column_outside columns row) p.1)

-- the line of a row that was written is not at fault, wherever it stands
line-again : (columns : List Column) (above : List Line) (row : List ℕ) (number : ℕ) → 0 < length columns
    → (is_within columns row && is_small row) ≡ true → line_fault columns above (map decimal row) number ≡ None
line-again columns above row number some h =
    let p = and_parts (is_within columns row) _ h in
    let kind = written_row row (has_some columns row some p.0) p.1 in
    rw (kind.0, kind.1) (row_fault-again columns row number p.0 p.1)

row_at : (columns : List Column) (rows : List (List ℕ)) (k : ℕ) → are_rows columns rows ≡ true → k < length rows
    → (row : List ℕ) × ((is_within columns row && is_small row) ≡ true) × (get_or (map (map decimal) rows) k [] ≡ map decimal row)
row_at columns [] k h below = absurd (omega arith)
row_at columns (row ∷ rows) zero h below = (row, (and_parts (is_within columns row && is_small row) _ h).0, refl)
row_at columns (row ∷ rows) (suc k) h below = row_at columns rows k (and_parts (is_within columns row && is_small row) _ h).1 (omega arith)

-- the RES that was written
res-again : (res : ℕ) → is_unit res ≡ true → res_of_word (res_text res) ≡ Some res
res-again res h =
    let most : res < 10 ^ 10 = grind (arith, nat_tests) in
    rw (res_word (decimal res), number_of-decimal res most, h) refl

first-again : (columns : List Column) (res : ℕ) → is_unit res ≡ true → line_fault columns [] (res_text res ∷ []) 1 ≡ None
first-again columns res h =
    let line = res_text res ∷ [] in
    ap (λ b. cond b (res_fault [] line 1) (cond (is_row_line line) (row_fault columns line 1) None)) (res_word (decimal res))
    ∙ ap (λ o. cond (is_none o || false || false) (Some (Resolution 1)) None) (res-again res h)

clean-again : (columns : List Column) (res : ℕ) (rows : List (List ℕ)) → 0 < length columns → is_unit res ≡ true → are_rows columns rows ≡ true
    → AreClean columns ((res_text res ∷ []) ∷ map (map decimal) rows) (length ((res_text res ∷ []) ∷ map (map decimal) rows))
unfolding fault_at
clean-again columns res rows some unit h zero below = first-again columns res unit
clean-again columns res rows some unit h (suc k) below =
    let inside : k < length rows = omega (arith, length-map rows (map decimal)) in
    let at = row_at columns rows k h inside in
    let above = take (suc k) ((res_text res ∷ []) ∷ map (map decimal) rows) in
    ap (λ (line : Line). line_fault columns above line (suc k + 1)) at.2 ∙ line-again columns above at.0 (suc k + 1) some at.1

-- ---- the whole text

smalls : (columns : List Column) (rows : List (List ℕ)) → are_rows columns rows ≡ true → list_all is_small rows ≡ true
smalls columns [] h = refl
smalls columns (row ∷ rows) h =
    let p = and_parts (is_within columns row && is_small row) _ h in
    rw ((and_parts (is_within columns row) _ p.0).1) (smalls columns rows p.1)

first_kept : (res : ℕ) (more : List Line) → filter is_res_line ((res_text res ∷ []) ∷ more) ≡ (res_text res ∷ []) ∷ filter is_res_line more
first_kept res more = rw (res_word (decimal res)) refl

pub table_again : (format : Format) (res : ℕ) (rows : List (List ℕ)) → 0 < length format.columns → is_unit res ≡ true
    → are_rows format.columns rows ≡ true → format.least ≤ length rows → length rows ≤ format.most → format.most < 2 ^ 63
    → IsTableText format (table_text res rows) × (rows_in (word_lines (table_text res rows)) ≡ rows) × (res_in (word_lines (table_text res rows)) ≡ res)
table_again format res rows some unit ok least most short =
    let below : res < 2 ^ 64 = grind (arith, nat_tests) in
    let lines : word_lines (table_text res rows) ≡ (res_text res ∷ []) ∷ map (map decimal) rows =
    lines_again res rows below (smalls format.columns rows ok) (omega arith) in
    let kept = rows-kept format.columns rows some ok in
    let again : rows_in (word_lines (table_text res rows)) ≡ rows =
    ap rows_in lines ∙ rw (res_word (decimal res)) (ap (map numbers_of) kept.0 ∙ rows-again format.columns rows ok) in (
      record {
        clean = subst (λ (ls : List Line). AreClean format.columns ls (length ls)) (sym lines) (clean-again format.columns res rows some unit ok);
        rows = ap (λ (l : List (List ℕ)). nat_le format.least (length l) && nat_le (length l) format.most) again ∙ grind (arith, nat_tests);
      },
      again,
      ap res_in lines ∙ ap (λ (ls : List Line). unwrap_or (get_or (map res_of_line ls) 0 None) 1000) (first_kept res (map (map decimal) rows))
          ∙ ap (λ o. unwrap_or o 1000) (res-again res unit),
    )
