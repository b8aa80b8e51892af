-- The text that is written of a table: `RES=n`, then each row with its numbers joined by single spaces, ` # ` and the
-- level. Source: dispadmin(1M); the widths are this project's own.
use Rattle.std.specs.Prelude.{ℕ, ◌+◌, List, [], ◌∷◌, ◌++◌, map, codes, decimal}
use Rattle.std.specs.List.{join_with_byte}
use Rattle.sd_types.specs.declared.tables.TsTable.{TsTable}
use Rattle.sd_types.specs.declared.tables.FixedTable.{FixedTable}
use Rattle.sd_text.specs.Lines.{text_of_lines}
use Rattle.sd_dispadmin.specs.TableText.{ts_numbers, fixed_numbers}

abbrev pub res_text : ℕ → List ℕ
res_text res = codes "RES=" ++ decimal res

unfoldable pub row_text : List ℕ → ℕ → List ℕ
row_text numbers level = join_with_byte 32 (map decimal numbers) ++ (codes " # " ++ decimal level)

-- the lines of these rows, of which the first has this level
abbrev pub row_texts : List (List ℕ) → ℕ → List (List ℕ)
row_texts [] level = []
row_texts (row ∷ rows) level = row_text row level ∷ row_texts rows (level + 1)

abbrev pub table_text : ℕ → List (List ℕ) → List ℕ
table_text res rows = text_of_lines (res_text res ∷ row_texts rows 0)

abbrev pub ts_text : TsTable → List ℕ
ts_text t = table_text t.res (map ts_numbers t.rows)

abbrev pub fixed_text : FixedTable → List ℕ
fixed_text t = table_text t.res (map fixed_numbers t.rows)
