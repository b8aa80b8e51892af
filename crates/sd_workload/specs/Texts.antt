-- Workload texts: each line is judged by the block that is open there and by what the lines above it declare. The first
-- line at fault is that of the refusal; where no line is at fault, the end of the input is judged, on the line after
-- the last. Source: this project's own.
use Rattle.std.specs.Prelude.{ℕ, ◌+◌, ◌*◌, Bool, false, ◌||◌, List, [], ◌∷◌, ◌++◌, length, sum_by, slice_set, slice_index_or, nat_lt, cond, Option, Some, None, is_none, option_map, unwrap_or}
use Rattle.sd_types.specs.declared.numbers.ThreadId.{ThreadId}
use Rattle.sd_types.specs.declared.classes.ClassParms.TheVariants as parms
use Rattle.sd_types.specs.declared.scripts.Op.{Op}
use Rattle.sd_types.specs.Limits.{most_operations_of_all, most_pairs, most_ticks}
use Rattle.sd_dispadmin.specs.declared.fault.TableFault.TheVariants.{Rows}
use Rattle.sd_dispadmin.specs.TableText.{Format, word_lines, ts_format, fx_format, rt_format, line_fault, has_rows, rows_in}
use Rattle.sd_lines.specs.declared.statements.TableClass.{TableClass}
use Rattle.sd_lines.specs.declared.statements.TableClass.TheVariants as table
use Rattle.sd_lines.specs.Words.{Line, is_done, is_end}
use Rattle.sd_lines.specs.Statements.{Statement, statement_of}
use Rattle.sd_lines.specs.Operations.{Operation, operation_of}
use Rattle.sd_declare.specs.declared.causes.WorkCause.{WorkCause}
use Rattle.sd_declare.specs.declared.causes.WorkCause.TheVariants.{Syntax, Table, Script}
use Rattle.sd_declare.specs.declared.statements.Opened.{Opened}
use Rattle.sd_declare.specs.declared.statements.Opened.TheVariants as opens
use Rattle.sd_declare.specs.Causes.{Causes, no_causes, least}
use Rattle.sd_declare.specs.Declarations.{Thread, Declarations, cpu_count, nothing}
use Rattle.sd_declare.specs.Statements.{statement_causes, with_statement}
use Rattle.sd_declare.specs.Opened.{opened_by}
use Rattle.sd_declare.specs.Operations.{operation_causes, op_of, ops_of_op}
use Rattle.sd_workload.specs.Scripts.{first_of, ops_fault, end_fault}

-- the block that is open: none, the table of a class with its lines so far, or the script of a thread with its
-- operations so far
pub data Block : Type 0 where
  Outside : Block
  InTable : TableClass → List Line → Block
  InScript : ThreadId → List Op → Block

-- ---- lines outside blocks

abbrev pub stated_cause : Declarations → Option Statement → Option WorkCause
stated_cause d None = Some Syntax
stated_cause d (Some s) = least (statement_causes d s)

abbrev pub stated : Declarations → Option Statement → Declarations
stated d None = d
stated d (Some s) = with_statement d s

abbrev pub block_of : Opened → Block
block_of opens.Nothing = Outside
block_of (opens.Table class) = InTable class []
block_of (opens.Script t) = InScript t []

abbrev pub opened : Declarations → Option Statement → Block
opened d None = Outside
opened d (Some s) = block_of (opened_by d s)

-- ---- lines of tables

abbrev pub format_of : TableClass → Format
format_of table.Ts = ts_format
format_of table.Fx = fx_format
format_of table.Rt = rt_format

abbrev pub rows_cause : Format → List Line → Option WorkCause
rows_cause format above = cond (has_rows format above) None (Some (Table (Rows (length (rows_in above)))))

-- the lines of a table are counted from 1
abbrev pub row_cause : Format → List Line → Line → Option WorkCause
row_cause format above line = option_map Table (line_fault format.columns above line (length above + 1))

abbrev pub table_cause : Format → List Line → Line → Option WorkCause
table_cause format above line = cond (is_end line) (rows_cause format above) (row_cause format above line)

abbrev pub with_table : Declarations → TableClass → List Line → Declarations
with_table d table.Ts lines = record d { ts = Some lines }
with_table d table.Fx lines = record d { fx = Some lines }
with_table d table.Rt lines = record d { rt = Some lines }

-- ---- lines of scripts

abbrev pub operation_cause : Declarations → List Op → Option Operation → Option WorkCause
operation_cause d ops None = Some Syntax
operation_cause d ops (Some o) = first_of (least (operation_causes d o)) (option_map Script (ops_fault ops (ops_of_op (op_of d o))))

abbrev pub script_cause : Declarations → List Op → Line → Option WorkCause
script_cause d ops line = cond (is_end line) (option_map Script (end_fault ops)) (operation_cause d ops (operation_of line))

-- the operations of a line, none where it has no words
abbrev pub ops_of : Declarations → Option Operation → List Op
ops_of d None = []
ops_of d (Some o) = ops_of_op (op_of d o)

-- no thread, past the last
abbrev pub no_thread : Thread
no_thread = record { name = []; class = parms.Sys 0; cpupri = 0; uid = 0; privileged = false; set = record { 0 = 0 }; ops = [] }

abbrev pub with_script : Declarations → ThreadId → List Op → Declarations
with_script d t ops = record d {
  threads = slice_set d.threads t.0 (record (slice_index_or d.threads t.0 no_thread) { ops = ops });
  scripted = d.scripted ++ t ∷ [];
}

-- ---- lines

-- a line without words is skipped; in a table it counts
abbrev pub unless_done : Line → Option WorkCause → Option WorkCause
unless_done line cause = cond (is_done line) None cause

-- why a line is refused
unfoldable pub cause_of : Declarations → Block → Line → Option WorkCause
cause_of d Outside line = unless_done line (stated_cause d (statement_of line))
cause_of d (InTable class above) line = table_cause (format_of class) above line
cause_of d (InScript t ops) line = unless_done line (script_cause d ops line)

-- what is declared below a line
unfoldable pub declared_after : Declarations → Block → Line → Declarations
declared_after d Outside line = stated d (statement_of line)
declared_after d (InTable class above) line = cond (is_end line) (with_table d class above) d
declared_after d (InScript t ops) line = cond (is_end line) (with_script d t ops) d

-- the block that is open below it
unfoldable pub block_after : Declarations → Block → Line → Block
block_after d Outside line = opened d (statement_of line)
block_after d (InTable class above) line = cond (is_end line) Outside (InTable class (above ++ line ∷ []))
block_after d (InScript t ops) line = cond (is_end line) Outside (InScript t (ops ++ ops_of d (operation_of line)))

-- ---- the end of the input

-- the ticks of all processors, the pairs of a thread and a lock, and the operations of all scripts
abbrev pub is_too_many : Declarations → Bool
is_too_many d =
    nat_lt most_ticks (unwrap_or d.limit 0 * cpu_count d) || nat_lt most_pairs (length d.threads * length d.locks)
    || nat_lt most_operations_of_all (sum_by (λ t. length t.ops) d.threads)

abbrev pub end_causes : Declarations → Causes
end_causes d = record no_causes { syntax = is_none d.limit; limits = is_too_many d }

unfoldable pub end_cause : Declarations → Block → Option WorkCause
end_cause d Outside = least (end_causes d)
end_cause d (InTable class above) = Some Syntax
end_cause d (InScript t ops) = Some Syntax

-- ---- texts

-- a text declares a workload, or is refused at a line
pub data Verdict : Type 0 where
  Accepts : Declarations → Verdict
  Refuses : ℕ → WorkCause → Verdict

abbrev pub unless_refused : ℕ → Option WorkCause → Verdict → Verdict
unless_refused number None verdict = verdict
unless_refused number (Some cause) verdict = Refuses number cause

-- lines, of which the first has this number, below lines that declare this and leave this block open
unfoldable pub judged : ℕ → Declarations → Block → List Line → Verdict
judged number d block [] = unless_refused number (end_cause d block) (Accepts d)
judged number d block (line ∷ lines) =
    unless_refused number (cause_of d block line) (judged (number + 1) (declared_after d block line) (block_after d block line) lines)

abbrev pub verdict_of : List ℕ → Verdict
verdict_of text = judged 1 nothing Outside (word_lines text)
