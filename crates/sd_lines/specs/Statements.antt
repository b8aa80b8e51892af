-- What a line outside blocks says, by its first word. A line that has none of these forms says nothing.
-- Source: this project's own.
use Rattle.std.specs.Prelude.{ℕ, List, [], ◌∷◌, cond, codes, Option, Some, None, option_map, option_and_then}
use Rattle.sd_types.specs.declared.works.LockKind.{LockKind}
use Rattle.sd_types.specs.declared.works.LockKind.TheVariants.{Mutex, Rwlock}
use Rattle.sd_types.specs.Works.{same_bytes}
use Rattle.sd_text.specs.Numbers.{number_of}
use Rattle.sd_lines.specs.declared.statements.TableClass.{TableClass}
use Rattle.sd_lines.specs.declared.statements.TableClass.TheVariants.{Ts, Fx, Rt}
use Rattle.sd_lines.specs.Words.{Word, Line, name_of, first, only, all_numbers}
use Rattle.sd_lines.specs.Threads.{Thread, thread_line}

pub data Statement : Type 0 where
  -- the number of processors
  Cpus : ℕ → Statement
  -- the ticks of a second
  Hz : ℕ → Statement
  -- the ticks of each processor
  Limit : ℕ → Statement
  -- a processor set and its processors
  Set : Word → List ℕ → Statement
  -- the table of a class begins
  Table : TableClass → Statement
  Lock : LockKind → Word → Statement
  Chan : Word → Statement
  -- a semaphore and its first count
  Sema : Word → ℕ → Statement
  Declare : Thread → Statement
  -- the script of this thread begins
  Script : Word → Statement

-- `ts`, `fx` or `rt`
unfoldable pub table_class : Word → Option TableClass
table_class word =
    cond (same_bytes word (codes "ts")) (Some Ts)
    (cond (same_bytes word (codes "fx")) (Some Fx)
    (cond (same_bytes word (codes "rt")) (Some Rt) None))

-- `set NAME C C ..`, behind `set`. That there is a number at all is judged with the causes.
unfoldable pub set_line : Line → Option Statement
set_line words = option_and_then (λ name. option_map (λ cpus. Set name.0 cpus) (all_numbers name.1)) (first name_of words)

-- `sema NAME N`, behind `sema`
unfoldable pub sema_line : Line → Option Statement
sema_line words = option_and_then (λ name. option_map (λ count. Sema name.0 count) (only number_of name.1)) (first name_of words)

-- `thread NAME ..` and `script NAME`
unfoldable pub thread_statement : Word → Line → Option Statement
thread_statement word words =
    cond (same_bytes word (codes "thread")) (option_map Declare (thread_line words))
    (cond (same_bytes word (codes "script")) (option_map Script (only name_of words)) None)

-- `mutex NAME`, `rwlock NAME`, `chan NAME`, `sema NAME N`
unfoldable pub object_statement : Word → Line → Option Statement
object_statement word words =
    cond (same_bytes word (codes "mutex")) (option_map (Lock Mutex) (only name_of words))
    (cond (same_bytes word (codes "rwlock")) (option_map (Lock Rwlock) (only name_of words))
    (cond (same_bytes word (codes "chan")) (option_map Chan (only name_of words))
    (cond (same_bytes word (codes "sema")) (sema_line words)
    (thread_statement word words))))

-- `cpus N`, `hz N`, `limit N`, `table CLASS`
unfoldable pub setting_statement : Word → Line → Option Statement
setting_statement word words =
    cond (same_bytes word (codes "cpus")) (option_map Cpus (only number_of words))
    (cond (same_bytes word (codes "hz")) (option_map Hz (only number_of words))
    (cond (same_bytes word (codes "limit")) (option_map Limit (only number_of words))
    (cond (same_bytes word (codes "table")) (option_map Table (only table_class words))
    (object_statement word words))))

unfoldable pub statement_of : Line → Option Statement
statement_of [] = None
statement_of (word ∷ words) = cond (same_bytes word (codes "set")) (set_line words) (setting_statement word words)
