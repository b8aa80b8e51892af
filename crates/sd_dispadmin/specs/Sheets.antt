-- What the reader keeps of the lines above.
use Rattle.std.specs.Prelude.{◌≡◌, ◌≤◌, ℕ, true, List, [], ◌∷◌, ◌++◌, length, map, slice_index_or, nat_lt, Some, None, is_some, Result, Ok, Err, IfSome}
use Rattle.std.specs.List.{list_all, list_any}
use Rattle.sd_dispadmin.specs.declared.columns.Column.{Column}
use Rattle.sd_dispadmin.specs.declared.fault.TableFault.{TableFault}
use Rattle.sd_dispadmin.specs.declared.sheet.Sheet.{Sheet}
use Rattle.sd_dispadmin.specs.TableText.{Line, is_res_line, is_row_line, is_unit, is_within, line_fault, rows_in, units_in}

-- the rows' numbers as plain lists
abbrev pub rows_of : Sheet → List (List ℕ)
rows_of s = map (λ r. r.items) s.rows.items

-- the sheet is what these lines give, of which none is at fault
pub record StandsFor (columns : List Column) (above : List Line) (s : Sheet) : Type 0 where
  pub res : s.res ≡ slice_index_or (units_in above) 0 None
  pub has_res : is_some s.res ≡ list_any is_res_line above
  pub count : s.count ≡ length (rows_in above)
  pub rows : s.count ≤ 61 → rows_of s ≡ rows_in above
  pub has_row : nat_lt 0 s.count ≡ list_any is_row_line above
  pub unit : IfSome s.res (λ n. is_unit n ≡ true)
  pub within : list_all (is_within columns) (rows_in above) ≡ true

-- A line was taken in below any lines that the sheet stands for: it is not at fault, or the result is its fault.
abbrev pub TakesLine : List Column → Line → ℕ → Sheet → Sheet → Result Unit TableFault → Type 0
TakesLine columns line number old new (Ok done) =
    (above : List Line) → StandsFor columns above old → (line_fault columns above line number ≡ None) × StandsFor columns (above ++ line ∷ []) new
TakesLine columns line number old new (Err fault) =
    (above : List Line) → StandsFor columns above old → line_fault columns above line number ≡ Some fault
