-- A text without a fault spells a table.
use Rattle.std.proofs.Common.{◌≡◌, ℕ, zero, suc, ◌+◌, ◌≤◌, ◌⊎◌, inl, inr, Bool, true, false, ◌&&◌, cond, nat_eq, nat_le, List, [], ◌∷◌, ◌++◌, length, take, map, filter, get_or, Option, Some, None, is_none, option_map, IfSome, unwrap_or, refl, sym, ap, ◌∙◌, arith}
use Rattle.std.proofs.lemmas.Bool.{and_parts, not-true}
use Rattle.std.specs.List.{list_all}
use Rattle.std.specs.Str.Parse.{digits_value}
use Rattle.std.proofs.lemmas.List.{length-map, take_more, take_all, map-append}
use Rattle.std.proofs.lemmas.List.Elements.{filter-append}
use Rattle.std.proofs.lemmas.List.Folds.{list_all-append}
use Rattle.std.proofs.lemmas.Bool.Decides.{nat_tests}
use Rattle.sd_types.specs.declared.tables.TsTable.{TsTable}
use Rattle.sd_types.specs.declared.tables.FixedTable.{FixedTable}
use Rattle.sd_dispadmin.specs.declared.columns.Column.{Column}
use Rattle.sd_dispadmin.specs.declared.fault.TableFault.{TableFault}
use Rattle.sd_dispadmin.specs.declared.fault.TableFault.TheVariants.{NotANumber, Range}
use Rattle.sd_dispadmin.specs.TableText.{Line, ts_columns, fixed_columns, ts_format, fixed_format, word_lines, is_res_word, is_res_line, is_row_line, is_unit, res_of_line, res_fault, has_numbers, numbers_of, column_outside, is_within, row_fault, line_fault, fault_at, AreClean, rows_in, res_in, IsTableFault, IsTableText, SpellsTs, SpellsFixed}
use Rattle.sd_dispadmin.specs.TableRows.{ts_row_of, fixed_row_of}
use Rattle.sd_dispadmin.proofs.SheetLemmas.{unit_of_line}
use Rattle.sd_dispadmin.proofs.RowLemmas.{ts_rows-right, fixed_rows-right}
use Rattle.sd_dispadmin.proofs.LawLemmas.{table_or_fault}

not_res : (line : Line) → is_row_line line ≡ true → is_res_line line ≡ false
not_res [] h = refl
not_res (word ∷ words) h = not-true (is_res_word word) h

no_fault : (b : Bool) (o : Option ℕ) (number : ℕ) → cond b (option_map (λ column. Range number (column + 1)) o) (Some (NotANumber number)) ≡ None
    → (b ≡ true) × (is_none o ≡ true)
no_fault true None number h = (refl, refl)
no_fault true (Some column) number h = cc
no_fault false o number h = cc

-- the numbers of a row that is not at fault lie in their columns
clean_row : (columns : List Column) (above : List Line) (line : Line) (number : ℕ) → is_row_line line ≡ true
    → line_fault columns above line number ≡ None → is_within columns (numbers_of line) ≡ true
clean_row columns above line number row h =
    let here : row_fault columns line number ≡ None =
    sym (ap (λ b. cond b (res_fault above line number) (cond (is_row_line line) (row_fault columns line number) None)) (not_res line row)
    ∙ ap (λ b. cond b (row_fault columns line number) None) row) ∙ h in
    let p = no_fault (has_numbers columns line) (column_outside columns (numbers_of line)) number here in
    let count : nat_eq (length line) (length columns) ≡ true = (and_parts (nat_eq (length line) (length columns)) _ p.0).0 in
    let same : nat_eq (length (numbers_of line)) (length columns) ≡ true = ap (λ n. nat_eq n (length columns)) (length-map line (digits_value 10)) ∙ count in
    rw same p.1

kept : (columns : List Column) (b : Bool) (line : Line) → (b ≡ true → is_within columns (numbers_of line) ≡ true)
    → list_all (is_within columns) (map numbers_of (cond b (line ∷ []) [])) ≡ true
kept columns true line h = rw (h refl) refl
kept columns false line h = refl

clean_rows : (columns : List Column) (lines : List Line) (n : ℕ) → n ≤ length lines → AreClean columns lines n
    → list_all (is_within columns) (rows_in (take n lines)) ≡ true
unfolding fault_at
clean_rows columns lines zero h clean = refl
clean_rows columns lines (suc n) h clean =
    let line = get_or lines n [] in
    let next : n + 1 ≡ suc n = omega arith in
    let longer : take (suc n) lines ≡ take n lines ++ line ∷ [] = sym (ap (λ k. take k lines) next) ∙ take_more lines n [] (omega arith) in
    let cut : rows_in (take n lines ++ line ∷ []) ≡ rows_in (take n lines) ++ rows_in (line ∷ []) =
    ap (map numbers_of) (filter-append is_row_line (take n lines) (line ∷ [])) ∙ map-append numbers_of (filter is_row_line (take n lines)) (filter is_row_line (line ∷ [])) in
    let before = clean_rows columns lines n (omega arith) (λ i below. clean i (omega arith)) in
    ap (λ (ls : List Line). list_all (is_within columns) (rows_in ls)) longer
    ∙ ap (list_all (is_within columns)) cut
    ∙ list_all-append (is_within columns) (rows_in (take n lines)) (rows_in (line ∷ []))
    ∙ rw before (kept columns (is_row_line line) line (λ row. clean_row columns (take n lines) line (n + 1) row (clean n (omega arith))))

clean_text : (columns : List Column) (lines : List Line) → AreClean columns lines (length lines) → list_all (is_within columns) (rows_in lines) ≡ true
clean_text columns lines clean =
    ap (λ (ls : List Line). list_all (is_within columns) (rows_in ls)) (sym (take_all (length lines) lines (omega arith)))
    ∙ clean_rows columns lines (length lines) (omega arith) clean

or_default : (o : Option ℕ) → IfSome o (λ n. is_unit n ≡ true) → is_unit (unwrap_or o 1000) ≡ true
or_default None h = refl
or_default (Some n) h = h

first_unit : (lines : List Line) → is_unit (unwrap_or (get_or (map res_of_line lines) 0 None) 1000) ≡ true
first_unit [] = refl
first_unit (line ∷ lines) = or_default (res_of_line line) (unit_of_line line)

units : (n : ℕ) → is_unit n ≡ true → (1 ≤ n) × (n ≤ 1000000000)
units n h = (grind (arith, nat_tests), grind (arith, nat_tests))

counted : (least most n : ℕ) → (nat_le least n && nat_le n most) ≡ true → (least ≤ n) × (n ≤ most)
counted least most n h = (grind (arith, nat_tests), grind (arith, nat_tests))

ts_of_text : (text : List ℕ) (hz : ℕ) → 1 ≤ hz → IsTableText ts_format text → (t : TsTable) × SpellsTs text hz t
ts_of_text text hz some h =
    let lines = word_lines text in
    let unit : is_unit (res_in lines) ≡ true = first_unit (filter is_res_line lines) in
    let right = ts_rows-right hz (res_in lines) (rows_in lines) some unit (clean_text ts_columns lines h.clean) in
    let count = counted 60 60 (length (rows_in lines)) h.rows in
    let long : length (map (ts_row_of hz (res_in lines)) (rows_in lines)) ≡ length (rows_in lines) = length-map (rows_in lines) _ in
    let t : TsTable = record {
      res = res_in lines;
      rows = map (ts_row_of hz (res_in lines)) (rows_in lines);
      some_res = (units (res_in lines) unit).0;
      most_res = (units (res_in lines) unit).1;
      whole = omega (arith, long, count.0, count.1);
      fits = right.1;
    } in
    (t, record { table = h; rows = sym right.0; res = refl; ticks = right.2 })

fixed_of_text : (most : ℕ) (text : List ℕ) (hz : ℕ) → most ≤ 61 → 1 ≤ hz → IsTableText (fixed_format most) text → (t : FixedTable) × SpellsFixed (fixed_format most) text hz t
fixed_of_text most text hz short some h =
    let lines = word_lines text in
    let unit : is_unit (res_in lines) ≡ true = first_unit (filter is_res_line lines) in
    let right = fixed_rows-right hz (res_in lines) (rows_in lines) some unit (clean_text fixed_columns lines h.clean) in
    let count = counted 60 most (length (rows_in lines)) h.rows in
    let long : length (map (fixed_row_of hz (res_in lines)) (rows_in lines)) ≡ length (rows_in lines) = length-map (rows_in lines) _ in
    let t : FixedTable = record {
      res = res_in lines;
      rows = map (fixed_row_of hz (res_in lines)) (rows_in lines);
      some_res = (units (res_in lines) unit).0;
      most_res = (units (res_in lines) unit).1;
      least = omega (arith, long, count.0);
      most = omega (arith, long, count.1);
      fits = right.1;
    } in
    (t, record { table = h; rows = sym right.0; res = refl; ticks = right.2 })

pub ts_or_fault : (text : List ℕ) (hz : ℕ) → 1 ≤ hz → ((t : TsTable) × SpellsTs text hz t) ⊎ ((fault : TableFault) × IsTableFault ts_format text fault)
ts_or_fault text hz some =
    elim (table_or_fault ts_format text) as (λ _. ((t : TsTable) × SpellsTs text hz t) ⊎ ((fault : TableFault) × IsTableFault ts_format text fault)) [
      | inl h ↦ inl (ts_of_text text hz some h)
      | inr h ↦ inr h
    ]

pub fixed_or_fault : (most : ℕ) (text : List ℕ) (hz : ℕ) → most ≤ 61 → 1 ≤ hz
    → ((t : FixedTable) × SpellsFixed (fixed_format most) text hz t) ⊎ ((fault : TableFault) × IsTableFault (fixed_format most) text fault)
fixed_or_fault most text hz short some =
    elim (table_or_fault (fixed_format most) text) as (λ _. ((t : FixedTable) × SpellsFixed (fixed_format most) text hz t) ⊎ ((fault : TableFault) × IsTableFault (fixed_format most) text fault)) [
      | inl h ↦ inl (fixed_of_text most text hz short some h)
      | inr h ↦ inr h
    ]
