-- The forms of the lines that a task set has beside those of a workload. The options of a line begin at the first of its words
-- `period`, `start` and `on` that has a number behind it: what stands before is the line of a workload.
-- Source: this project's own.
use Rattle.std.specs.Prelude.{ℕ, Bool, false, ◌&&◌, ◌||◌, List, [], ◌∷◌, length, nat_lt, cond, codes, Option, Some, None, is_some, option_map, option_and_then}
use Rattle.sd_types.specs.Works.{same_bytes}
use Rattle.sd_text.specs.Numbers.{number_of}
use Rattle.sd_lines.specs.Words.{Word, Line, first, is_done}
use Rattle.sd_lines.specs.Threads.{Thread}
use Rattle.sd_lines.specs.Statements.{Statement, Declare, statement_of, Cpus, Hz, Limit, Set, Table, Lock, Chan, Sema, Script}
use Rattle.sd_lines.specs.Operations.{Operation, Run, operation_of}
use Rattle.sd_tasks.specs.declared.forms.TimedOptions.{TimedOptions}
use Rattle.sd_tasks.specs.Written.{spaced}

-- ---- where the options begin

abbrev pub is_option : Word → Bool
is_option word = same_bytes word (codes "period") || same_bytes word (codes "start") || same_bytes word (codes "on")

abbrev pub is_number_first : Line → Bool
is_number_first [] = false
is_number_first (word ∷ words) = is_some (number_of word)

abbrev pub begins_options : Line → Bool
begins_options [] = false
begins_options (word ∷ words) = is_option word && is_number_first words

-- the words before the options
unfoldable pub head_of : Line → Line
head_of [] = []
head_of (word ∷ words) = cond (begins_options (word ∷ words)) [] (word ∷ head_of words)

-- the options
unfoldable pub options_of : Line → Line
options_of [] = []
options_of (word ∷ words) = cond (begins_options (word ∷ words)) (word ∷ words) (options_of words)

abbrev pub has_options : Line → Bool
has_options words = nat_lt 0 (length (options_of words))

-- ---- options

-- the number behind this word, where the line begins with the word, and what is left
unfoldable pub number_option : Word → Line → Option (Option ℕ × Line)
number_option keyword [] = Some (None, [])
number_option keyword (word ∷ words) =
    cond (same_bytes word keyword) (option_map (λ n. (Some n.0, n.1)) (first number_of words)) (Some (None, word ∷ words))

-- `period P`, and then `offset O`, `deadline D`, `jobs N` and `on CPU`, each at most once
unfoldable pub task_options : Line → Option TimedOptions
task_options words =
    option_and_then (λ period. option_and_then (λ offset. option_and_then (λ deadline. option_and_then (λ jobs. option_and_then (λ cpu.
    cond (is_some period.0 && is_done cpu.1)
    (Some (record { period = period.0; offset = offset.0; deadline = deadline.0; jobs = jobs.0; start = None; cpu = cpu.0 })) None)
    (number_option (codes "on") jobs.1)) (number_option (codes "jobs") deadline.1)) (number_option (codes "deadline") offset.1))
    (number_option (codes "offset") period.1)) (number_option (codes "period") words)

-- `start T` and `on CPU`, each at most once
unfoldable pub thread_options : Line → Option TimedOptions
thread_options words =
    option_and_then (λ start. option_and_then (λ cpu.
    cond (is_done cpu.1) (Some (record { period = None; offset = None; deadline = None; jobs = None; start = start.0; cpu = cpu.0 })) None)
    (number_option (codes "on") start.1)) (number_option (codes "start") words)

abbrev pub timed_options : Bool → Line → Option TimedOptions
timed_options is_task words = cond is_task (task_options words) (thread_options words)

-- ---- the lines `task` and `thread`, behind their first words

-- what the line says of a thread, the words of that with a blank before each, and the options
pub record Timed : Type 0 where
  pub thread : Thread
  pub head : List ℕ
  pub options : TimedOptions

abbrev pub declared_thread : Option Statement → Option Thread
declared_thread (Some (Declare t)) = Some t
declared_thread (Some (Cpus n)) = None
declared_thread (Some (Hz n)) = None
declared_thread (Some (Limit n)) = None
declared_thread (Some (Set name cpus)) = None
declared_thread (Some (Table class)) = None
declared_thread (Some (Lock kind name)) = None
declared_thread (Some (Chan name)) = None
declared_thread (Some (Sema name n)) = None
declared_thread (Some (Script name)) = None
declared_thread None = None

-- the thread that the words before the options declare
abbrev pub head_thread : Line → Option Thread
head_thread words = declared_thread (statement_of (codes "thread" ∷ head_of words))

unfoldable pub timed_line : Bool → Line → Option Timed
timed_line is_task words =
    option_and_then (λ t. option_map (λ o. record { thread = t; head = spaced (head_of words); options = o }) (timed_options is_task (options_of words)))
    (head_thread words)

-- the name of a script that begins
abbrev pub script_name : Option Statement → Option Word
script_name (Some (Script name)) = Some name
script_name (Some (Cpus n)) = None
script_name (Some (Hz n)) = None
script_name (Some (Limit n)) = None
script_name (Some (Set name cpus)) = None
script_name (Some (Table class)) = None
script_name (Some (Lock kind name)) = None
script_name (Some (Chan name)) = None
script_name (Some (Sema name n)) = None
script_name (Some (Declare t)) = None
script_name None = None

-- `NAME` behind `job`: a name that stands alone, as behind `script`
abbrev pub job_name : Line → Option Word
job_name words = script_name (statement_of (codes "script" ∷ words))

abbrev pub run_ticks : Option Operation → Option ℕ
run_ticks (Some (Run n)) = Some n
run_ticks (Some _) = None
run_ticks None = None

-- `N` behind `repeat`: a number that stands alone, as behind `run`
abbrev pub repeat_rounds : Line → Option ℕ
repeat_rounds words = run_ticks (operation_of (codes "run" ∷ words))
