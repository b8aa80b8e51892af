-- A sheet of the right number of rows makes the table that the text spells.
use Rattle.std.proofs.Common.{◌≡◌, ℕ, ◌≤◌, true, nat_eq, List, map, Option, unwrap_or, sym, ap, ◌∙◌}
use Rattle.std.specs.List.{list_all}
use Rattle.sd_types.specs.declared.tables.TsRow.{TsRow}
use Rattle.sd_types.specs.declared.tables.FixedRow.{FixedRow}
use Rattle.sd_types.specs.declared.tables.TsTable.{TsTable}
use Rattle.sd_types.specs.declared.tables.FixedTable.{FixedTable}
use Rattle.sd_types.specs.Rows.{ts_row_fits, fixed_row_fits}
use Rattle.sd_types.specs.Ticks.{ticks_of}
use Rattle.sd_dispadmin.specs.declared.sheet.Sheet.{Sheet}
use Rattle.sd_dispadmin.specs.TableText.{ts_columns, fixed_columns, ts_format, fixed_format, word_lines, rows_in, IsTableText, is_unit, ts_numbers, fixed_numbers, SpellsTs, SpellsFixed}
use Rattle.sd_dispadmin.specs.Sheets.{StandsFor, rows_of}
use Rattle.sd_dispadmin.specs.TableRows.{ts_row_of, fixed_row_of}
use Rattle.sd_dispadmin.proofs.RowLemmas.{ts_rows-right, fixed_rows-right}

pub ts_fits : (text : List ℕ) (hz res : ℕ) (s : Sheet) (rows : List TsRow) → StandsFor ts_columns (word_lines text) s → rows_of s ≡ rows_in (word_lines text)
    → 1 ≤ hz → is_unit res ≡ true → rows ≡ map (ts_row_of hz res) (rows_of s) → list_all ts_row_fits rows ≡ true
ts_fits text hz res s rows stands same h unit made =
    ap (list_all ts_row_fits) (made ∙ ap (map (ts_row_of hz res)) same) ∙ (ts_rows-right hz res (rows_in (word_lines text)) h unit stands.within).1

pub ts_spelled : (text : List ℕ) (hz : ℕ) (s : Sheet) (t : TsTable) → IsTableText ts_format text
    → StandsFor ts_columns (word_lines text) s → rows_of s ≡ rows_in (word_lines text)
    → 1 ≤ hz → is_unit t.res ≡ true → t.res ≡ unwrap_or s.res 1000 → t.rows ≡ map (ts_row_of hz t.res) (rows_of s)
    → SpellsTs text hz t
ts_spelled text hz s t table stands same h unit res made =
    let e = made ∙ ap (map (ts_row_of hz t.res)) same in
    let right = ts_rows-right hz t.res (rows_in (word_lines text)) h unit stands.within in
    record {
      table = table;
      rows = sym right.0 ∙ ap (map ts_numbers) (sym e);
      res = res ∙ ap (λ (o : Option ℕ). unwrap_or o 1000) stands.res;
      ticks = ap (list_all (λ (r : TsRow). nat_eq r.ticks (ticks_of r.quantum hz t.res))) e ∙ right.2;
    }

pub fixed_fits : (text : List ℕ) (hz res : ℕ) (s : Sheet) (rows : List FixedRow) → StandsFor fixed_columns (word_lines text) s → rows_of s ≡ rows_in (word_lines text)
    → 1 ≤ hz → is_unit res ≡ true → rows ≡ map (fixed_row_of hz res) (rows_of s) → list_all fixed_row_fits rows ≡ true
fixed_fits text hz res s rows stands same h unit made =
    ap (list_all fixed_row_fits) (made ∙ ap (map (fixed_row_of hz res)) same) ∙ (fixed_rows-right hz res (rows_in (word_lines text)) h unit stands.within).1

pub fixed_spelled : (most : ℕ) (text : List ℕ) (hz : ℕ) (s : Sheet) (t : FixedTable) → IsTableText (fixed_format most) text
    → StandsFor fixed_columns (word_lines text) s → rows_of s ≡ rows_in (word_lines text)
    → 1 ≤ hz → is_unit t.res ≡ true → t.res ≡ unwrap_or s.res 1000 → t.rows ≡ map (fixed_row_of hz t.res) (rows_of s)
    → SpellsFixed (fixed_format most) text hz t
fixed_spelled most text hz s t table stands same h unit res made =
    let e = made ∙ ap (map (fixed_row_of hz t.res)) same in
    let right = fixed_rows-right hz t.res (rows_in (word_lines text)) h unit stands.within in
    record {
      table = table;
      rows = sym right.0 ∙ ap (map fixed_numbers) (sym e);
      res = res ∙ ap (λ (o : Option ℕ). unwrap_or o 1000) stands.res;
      ticks = ap (list_all (λ (r : FixedRow). nat_eq r.ticks (ticks_of r.quantum hz t.res))) e ∙ right.2;
    }
