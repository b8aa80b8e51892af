-- Table files in the manner of dispadmin(1M): which text spells which table, and the fault of a text that spells none.
-- Each line is judged as a whole: by its words, and by what kinds of lines stand above it.
-- Source: dispadmin(1M), ts_dptbl(4), rt_dptbl(4). This project's own: RES is 1000 where it is absent, the greatest
-- numbers, and the faults.
use Rattle.std.specs.Prelude.{◌≡◌, ℕ, ◌+◌, ◌<◌, ◌⊎◌, Bool, true, false, not, ◌&&◌, ◌||◌, ◌==◌, nat_le, cond, List, [], ◌∷◌, length, take, map, filter, position, slice_index, slice_index_or, drop, Option, Some, None, is_none, option_map, option_and_then, unwrap_or, IsTrue}
use Rattle.std.specs.List.{list_all, list_any, zip}
use Rattle.std.specs.Str.Parse.{digits_value}
use Rattle.sd_types.specs.declared.tables.TsRow.{TsRow}
use Rattle.sd_types.specs.declared.tables.FixedRow.{FixedRow}
use Rattle.sd_types.specs.declared.tables.TsTable.{TsTable}
use Rattle.sd_types.specs.declared.tables.FixedTable.{FixedTable}
use Rattle.sd_types.specs.Limits.{greatest_resolution, most_quantum_units}
use Rattle.sd_types.specs.Ticks.{ts_ticks_fit, fixed_ticks_fit}
use Rattle.sd_text.specs.Lines.{lines_of}
use Rattle.sd_text.specs.Words.{words_of}
use Rattle.sd_text.specs.Numbers.{is_number, number_of}
use Rattle.sd_dispadmin.specs.declared.fault.TableFault.{TableFault}
use Rattle.sd_dispadmin.specs.declared.fault.TableFault.TheVariants.{NotANumber, Range, Rows, Resolution}
use Rattle.sd_dispadmin.specs.declared.fault.ReadTableFault.{ReadTableFault}
use Rattle.sd_dispadmin.specs.declared.fault.ReadTableFault.TheVariants.{Table, Memory}
use Rattle.sd_dispadmin.specs.declared.columns.Column.{Column}

-- ---- what the files of a class have

pub record Format : Type 0 where
  pub columns : List Column
  pub least : ℕ
  pub most : ℕ

abbrev pub quantum_column : Column
quantum_column = record { least = 1; greatest = most_quantum_units }

abbrev pub level_column : Column
level_column = record { least = 0; greatest = 59 }

abbrev pub maxwait_column : Column
maxwait_column = record { least = 0; greatest = 32767 }

-- ts_quantum, ts_tqexp, ts_slpret, ts_maxwait, ts_lwait
abbrev pub ts_columns : List Column
ts_columns = quantum_column ∷ level_column ∷ level_column ∷ maxwait_column ∷ level_column ∷ []

abbrev pub fixed_columns : List Column
fixed_columns = quantum_column ∷ []

abbrev pub ts_format : Format
ts_format = record { columns = ts_columns; least = 60; most = 60 }

-- the fixed-priority and the real-time class, by the greatest number of rows
abbrev pub fixed_format : ℕ → Format
fixed_format most = record { columns = fixed_columns; least = 60; most = most }

abbrev pub fx_format : Format
fx_format = fixed_format 61

abbrev pub rt_format : Format
rt_format = fixed_format 60

-- ---- kinds of lines, a line being the list of its words

abbrev pub Line : Type 0
Line = List (List ℕ)

-- the lines of a text, as their words
abbrev pub word_lines : List ℕ → List Line
word_lines text = map words_of (lines_of text)

-- the word begins with `RES=`
unfoldable pub is_res_word : List ℕ → Bool
is_res_word word = slice_index word 0 == 82 && slice_index word 1 == 69 && slice_index word 2 == 83 && slice_index word 3 == 61

-- a line whose first word begins with `RES=`
abbrev pub is_res_line : Line → Bool
is_res_line [] = false
is_res_line (word ∷ words) = is_res_word word

-- any other line with a word
abbrev pub is_row_line : Line → Bool
is_row_line [] = false
is_row_line (word ∷ words) = not (is_res_word word)

-- ---- the RES line

abbrev pub is_unit : ℕ → Bool
is_unit n = nat_le 1 n && nat_le n greatest_resolution

-- the RES that a word gives: `RES=` and a number from 1 to 1,000,000,000, unbroken
abbrev pub res_of_word : List ℕ → Option ℕ
res_of_word word = cond (is_res_word word) (option_and_then (λ n. cond (is_unit n) (Some n) None) (number_of (drop 4 word))) None

-- the RES that a line gives on which nothing else stands
abbrev pub res_of_line : Line → Option ℕ
res_of_line [] = None
res_of_line (word ∷ []) = res_of_word word
res_of_line (word ∷ other ∷ words) = None

-- a RES line below these lines: it gives no RES, another one stands above it, or a row does
abbrev pub res_fault : List Line → Line → ℕ → Option TableFault
res_fault above line number =
    cond (is_none (res_of_line line) || list_any is_res_line above || list_any is_row_line above) (Some (Resolution number)) None

-- ---- rows

-- as many words as there are columns, and each a number
abbrev pub has_numbers : List Column → Line → Bool
has_numbers columns line = (length line == length columns) && list_all is_number line

-- their values
abbrev pub numbers_of : Line → List ℕ
numbers_of line = map (digits_value 10) line

abbrev pub is_outside : Column × ℕ → Bool
is_outside p = not (nat_le p.0.least p.1 && nat_le p.1 p.0.greatest)

-- the first column, counted from 0, whose number lies outside its range
abbrev pub column_outside : List Column → List ℕ → Option ℕ
column_outside columns numbers = position is_outside (zip columns numbers)

abbrev pub row_fault : List Column → Line → ℕ → Option TableFault
row_fault columns line number =
    cond (has_numbers columns line) (option_map (λ column. Range number (column + 1)) (column_outside columns (numbers_of line))) (Some (NotANumber number))

-- ---- texts

-- what is wrong with a line of this number, below these lines
abbrev pub line_fault : List Column → List Line → Line → ℕ → Option TableFault
line_fault columns above line number =
    cond (is_res_line line) (res_fault above line number) (cond (is_row_line line) (row_fault columns line number) None)

-- what is wrong with the line at an index, counted from 0
unfoldable pub fault_at : List Column → List Line → ℕ → Option TableFault
fault_at columns lines i = line_fault columns (take i lines) (slice_index_or lines i []) (i + 1)

-- nothing is wrong with the lines before an index
abbrev pub AreClean : List Column → List Line → ℕ → Type 0
AreClean columns lines n = (i : ℕ) → i < n → fault_at columns lines i ≡ None

-- the rows' numbers, in order
abbrev pub rows_in : List Line → List (List ℕ)
rows_in lines = map numbers_of (filter is_row_line lines)

-- what the RES lines give, in order
abbrev pub units_in : List Line → List (Option ℕ)
units_in lines = map res_of_line (filter is_res_line lines)

-- the RES of the first RES line, or 1000
abbrev pub res_in : List Line → ℕ
res_in lines = unwrap_or (slice_index_or (units_in lines) 0 None) 1000

abbrev pub has_rows : Format → List Line → Bool
has_rows format lines = nat_le format.least (length (rows_in lines)) && nat_le (length (rows_in lines)) format.most

-- the fault is that of the first line at fault
abbrev pub IsLineFault : List Column → List Line → TableFault → Type 0
IsLineFault columns lines fault =
    (i : ℕ) × (i < length lines) × AreClean columns lines i × (fault_at columns lines i ≡ Some fault)

-- no line is at fault, and the number of rows is wrong
abbrev pub IsRowsFault : Format → List Line → TableFault → Type 0
IsRowsFault format lines fault =
    AreClean format.columns lines (length lines) × (has_rows format lines ≡ false) × (fault ≡ Rows (length (rows_in lines)))

abbrev pub IsTableFault : Format → List ℕ → TableFault → Type 0
IsTableFault format text fault = IsLineFault format.columns (word_lines text) fault ⊎ IsRowsFault format (word_lines text) fault

-- no line is at fault, and the number of rows is right
pub record IsTableText (format : Format) (text : List ℕ) : Type 0 where
  pub clean : AreClean format.columns (word_lines text) (length (word_lines text))
  pub rows : has_rows format (word_lines text) ≡ true

-- a reader's refusal: the fault of the text, or out of memory, which hides no fault
abbrev pub IsRefusal : Format → List ℕ → ReadTableFault → Type 0
IsRefusal format text (Table fault) = IsTableFault format text fault
IsRefusal format text Memory = IsTableText format text

-- ---- spellings

abbrev pub ts_numbers : TsRow → List ℕ
ts_numbers r = r.quantum ∷ r.tqexp ∷ r.slpret ∷ r.maxwait ∷ r.lwait ∷ []

abbrev pub fixed_numbers : FixedRow → List ℕ
fixed_numbers r = r.quantum ∷ []

-- the text spells a table, whose ticks are those at hz
pub record SpellsTs (text : List ℕ) (hz : ℕ) (t : TsTable) : Type 0 where
  pub table : IsTableText ts_format text
  pub rows : rows_in (word_lines text) ≡ map ts_numbers t.rows
  pub res : t.res ≡ res_in (word_lines text)
  pub ticks : IsTrue (ts_ticks_fit hz t)

pub record SpellsFixed (format : Format) (text : List ℕ) (hz : ℕ) (t : FixedTable) : Type 0 where
  pub table : IsTableText format text
  pub rows : rows_in (word_lines text) ≡ map fixed_numbers t.rows
  pub res : t.res ≡ res_in (word_lines text)
  pub ticks : IsTrue (fixed_ticks_fit hz t)

-- each number of a row lies in the range of its column
abbrev pub is_within : List Column → List ℕ → Bool
is_within columns numbers = (length numbers == length columns) && is_none (column_outside columns numbers)
