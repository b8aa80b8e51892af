-- The rules that a task set has beside those of a workload: why a line is at fault by them, and what is seen below it.
-- Source: this project's own.
use Rattle.std.specs.Prelude.{ℕ, pos, ℤ, int_le, ◌+◌, ◌/◌, max, Bool, true, false, not, ◌&&◌, ◌||◌, ◌==◌, List, [], ◌∷◌, ◌++◌, length, nat_le, nat_lt, cond, codes, slice_get, Option, Some, None, is_none}
use Rattle.sd_types.specs.Limits.{greatest_limit, most_processors, most_threads, most_ticks}
use Rattle.sd_types.specs.Works.{same_bytes}
use Rattle.sd_lines.specs.declared.operations.RequestLine.{RequestLine}
use Rattle.sd_lines.specs.declared.operations.RequestLine.TheVariants as request
use Rattle.sd_lines.specs.Words.{Word, Line, is_end}
use Rattle.sd_lines.specs.Threads.{Thread}
use Rattle.sd_lines.specs.Statements.{Statement, Cpus, Hz, Limit, Set, Table, Lock, Chan, Sema, Declare, Script, statement_of}
use Rattle.sd_lines.specs.Operations.{Operation, Run, Yield, Nap, Sleep, Wake, WakeAll, Enter, Read, Write, Exit, Prio, CvWait, SemaP, SemaV, Assign, Pbind, operation_of}
use Rattle.sd_declare.specs.declared.causes.WorkCause.{WorkCause}
use Rattle.sd_declare.specs.declared.causes.WorkCause.TheVariants.{Syntax, Unknown, Twice, Range, Limits}
use Rattle.sd_tasks.specs.declared.blocks.Block.{Block}
use Rattle.sd_tasks.specs.declared.blocks.Block.TheVariants as block
use Rattle.sd_tasks.specs.declared.blocks.Repeat.{Repeat}
use Rattle.sd_tasks.specs.Above.{Above, Member, is_gate, is_kept_name, thread_named}
use Rattle.sd_tasks.specs.Blocks.{Seen, with_line, opening_cause, opened_by, repeat_closed, body, body_cause, closed, closing_cause}
use Rattle.sd_tasks.specs.Forms.{Timed, has_options, job_name, repeat_rounds, timed_line}
use Rattle.sd_tasks.specs.Timed.{is_high_class, timed_cause, timed_lines, with_timed}
use Rattle.sd_tasks.specs.Written.{written, joined}

-- ---- lines of a workload, outside blocks

-- a name that is kept, in a text with timed lines
abbrev pub name_cause : Above → Word → Option WorkCause
name_cause a name = cond (a.is_timed && is_kept_name name) (Some Twice) None

abbrev pub thread_cause : Above → Thread → Option WorkCause
thread_cause a t =
    cond (a.is_timed && is_kept_name t.name) (Some Twice)
    (cond (a.is_timed && is_high_class t.class) (Some Range)
    (cond (nat_le most_threads (length a.threads)) (Some Limits) None))

abbrev pub unless : Bool → WorkCause → Option WorkCause
unless fits cause = cond fits None (Some cause)

-- `cpus` and `set` stand above the timed lines. The ranges of `cpus` and `limit` are those of a workload.
abbrev pub stated_cause : Above → Option Statement → Option WorkCause
stated_cause a None = Some Syntax
stated_cause a (Some (Cpus n)) = cond a.is_timed (Some Syntax) (unless (nat_le 1 n && nat_le n most_processors) Range)
stated_cause a (Some (Hz n)) = None
stated_cause a (Some (Limit n)) = unless (nat_le 1 n && nat_le n greatest_limit) Range
stated_cause a (Some (Set name cpus)) = cond a.is_timed (Some Syntax) None
stated_cause a (Some (Table class)) = None
stated_cause a (Some (Lock kind name)) = None
stated_cause a (Some (Chan name)) = name_cause a name
stated_cause a (Some (Sema name n)) = name_cause a name
stated_cause a (Some (Declare t)) = thread_cause a t
stated_cause a (Some (Script name)) = opening_cause false (thread_named a name)

-- a thread that is not timed
abbrev pub plain_member : ℕ → Thread → Member
plain_member number t = record { name = t.name; line = number; set = 0; home = 0; release = None; rounds = 1; cpu = None; deadline = None; is_task = false; is_given = false }

abbrev pub with_chan : Above → Word → Above
with_chan a name = record a { chans = a.chans ++ name ∷ []; has_kept = a.has_kept || is_kept_name name }

abbrev pub with_thread : Above → ℕ → Thread → Above
with_thread a number t = record a {
  threads = a.threads ++ plain_member number t ∷ [];
  has_high = a.has_high || is_high_class t.class;
  has_kept = a.has_kept || is_kept_name t.name;
}

-- what is above a line below one that opens no script
abbrev pub above_after : Above → ℕ → Statement → Above
above_after a number (Cpus n) = record a { cpus = n }
above_after a number (Hz n) = a
above_after a number (Limit n) = record a { limit = Some n }
above_after a number (Set name cpus) = record a { sets = a.sets ++ (name, cpus) ∷ [] }
above_after a number (Table class) = a
above_after a number (Lock kind name) = a
above_after a number (Chan name) = with_chan a name
above_after a number (Sema name n) = with_chan a name
above_after a number (Declare t) = with_thread a number t
above_after a number (Script name) = a

abbrev pub with_statement : Seen → ℕ → Line → Statement → Seen
with_statement s number line statement = with_line (record s { above = above_after s.above number statement }) (written (joined line) number)

abbrev pub stated : Seen → ℕ → Line → Option Statement → Seen
stated s number line None = s
stated s number line (Some (Cpus n)) = with_statement s number line (Cpus n)
stated s number line (Some (Hz n)) = with_statement s number line (Hz n)
stated s number line (Some (Limit n)) = with_statement s number line (Limit n)
stated s number line (Some (Set name cpus)) = with_statement s number line (Set name cpus)
stated s number line (Some (Table class)) = record (with_statement s number line (Table class)) { block = block.Table }
stated s number line (Some (Lock kind name)) = with_statement s number line (Lock kind name)
stated s number line (Some (Chan name)) = with_statement s number line (Chan name)
stated s number line (Some (Sema name n)) = with_statement s number line (Sema name n)
stated s number line (Some (Declare t)) = with_statement s number line (Declare t)
stated s number line (Some (Script name)) = opened_by s number name

-- ---- timed lines and jobs

abbrev pub timed_after : Seen → ℕ → Bool → Option Timed → Seen
timed_after s number is_task None = s
timed_after s number is_task (Some t) = record s {
  above = with_timed s.above number is_task t;
  judged = s.judged ++ timed_lines s.above number is_task t;
  written = s.written ++ timed_lines s.above number is_task t;
}

abbrev pub job_cause : Above → Option Word → Option WorkCause
job_cause a None = Some Syntax
job_cause a (Some name) = opening_cause true (thread_named a name)

abbrev pub job_after : Seen → ℕ → Option Word → Seen
job_after s number None = s
job_after s number (Some name) = opened_by s number name

-- ---- lines outside blocks

abbrev pub is_timed_thread : Word → Line → Bool
is_timed_thread word words = same_bytes word (codes "thread") && has_options words

unfoldable pub outside_cause : Seen → Word → Line → Option WorkCause
outside_cause s word words =
    cond (same_bytes word (codes "task")) (timed_cause s.above true (timed_line true words))
    (cond (same_bytes word (codes "job")) (job_cause s.above (job_name words))
    (cond (is_timed_thread word words) (timed_cause s.above false (timed_line false words))
    (stated_cause s.above (statement_of (word ∷ words)))))

unfoldable pub outside_after : Seen → ℕ → Word → Line → Seen
outside_after s number word words =
    cond (same_bytes word (codes "task")) (timed_after s number true (timed_line true words))
    (cond (same_bytes word (codes "job")) (job_after s number (job_name words))
    (cond (is_timed_thread word words) (timed_after s number false (timed_line false words))
    (stated s number (word ∷ words) (statement_of (word ∷ words)))))

-- ---- lines of tables

unfoldable pub row_after : Seen → ℕ → Line → Seen
row_after s number line = with_line (record s { block = cond (is_end line) block.Outside s.block }) (written (joined line) number)

-- ---- lines of scripts and jobs

abbrev pub is_high_level : ℤ → Bool
is_high_level pri = int_le (pos 59) pri && int_le pri (pos 59)

abbrev pub is_high_request : RequestLine → Bool
is_high_request (request.Ts limit pri) = false
is_high_request (request.Fx limit pri quantum) = false
is_high_request (request.Sys pri) = false
is_high_request (request.Rt pri quantum) = is_high_level pri

-- it asks for level 59
abbrev pub is_high : Operation → Bool
is_high (Prio t r) = is_high_request r
is_high _ = false

-- it names the semaphore of a task or of a thread with `start`
abbrev pub names_gate : Above → Operation → Bool
names_gate a (SemaP k) = is_gate a k
names_gate a (SemaV k) = is_gate a k
names_gate a _ = false

abbrev pub operation_after : Seen → ℕ → Line → Option Operation → Seen
operation_after s number line None = s
operation_after s number line (Some o) =
    record s { above = record s.above { has_high = s.above.has_high || is_high o }; judged = s.judged ++ written (joined line) number ∷ [] }

abbrev pub operation_cause : Seen → ℕ → Line → Option Operation → Option WorkCause
operation_cause s number line None = Some Syntax
operation_cause s number line (Some o) =
    cond (names_gate s.above o) (Some Unknown)
    (cond (s.above.is_timed && is_high o) (Some Range)
    (body_cause (operation_after s number line (Some o))))

-- 1 to 256 rounds, and eight repeats at most are open
abbrev pub repeat_cause : Seen → Option ℕ → Option WorkCause
repeat_cause s None = Some Syntax
repeat_cause s (Some n) = cond (nat_le 1 n && nat_le n 256) (cond (nat_le 8 (length s.repeats)) (Some Limits) None) (Some Range)

abbrev pub repeat_after : Seen → Option ℕ → Seen
repeat_after s None = s
repeat_after s (Some n) = record s { repeats = s.repeats ++ record { times = n; from = length s.judged } ∷ [] }

-- of the script that is open
abbrev pub block_line : Block → ℕ
block_line block.Outside = 0
block_line block.Table = 0
block_line (block.Script place number from) = number

abbrev pub block_thread : Above → Block → Option Member
block_thread a block.Outside = None
block_thread a block.Table = None
block_thread a (block.Script place number from) = slice_get a.threads place

abbrev pub is_repeating : Seen → Bool
is_repeating s = nat_lt 0 (length s.repeats)

unfoldable pub end_after : Seen → ℕ → Seen
end_after s number = cond (is_repeating s) (repeat_closed s) (closed s number (block_line s.block) (block_thread s.above s.block))

unfoldable pub end_cause : Seen → Option WorkCause
end_cause s = cond (is_repeating s) (body_cause (repeat_closed s)) (closing_cause (body s) (block_thread s.above s.block))

unfoldable pub inside_cause : Seen → ℕ → Word → Line → Option WorkCause
inside_cause s number word words =
    cond (is_end (word ∷ words)) (end_cause s)
    (cond (same_bytes word (codes "repeat")) (repeat_cause s (repeat_rounds words))
    (operation_cause s number (word ∷ words) (operation_of (word ∷ words))))

unfoldable pub inside_after : Seen → ℕ → Word → Line → Seen
inside_after s number word words =
    cond (is_end (word ∷ words)) (end_after s number)
    (cond (same_bytes word (codes "repeat")) (repeat_after s (repeat_rounds words))
    (operation_after s number (word ∷ words) (operation_of (word ∷ words))))

-- ---- lines

abbrev pub block_cause : Block → Seen → ℕ → Word → Line → Option WorkCause
block_cause block.Outside s number word words = outside_cause s word words
block_cause block.Table s number word words = None
block_cause (block.Script place line from) s number word words = inside_cause s number word words

abbrev pub block_after : Block → Seen → ℕ → Word → Line → Seen
block_after block.Outside s number word words = outside_after s number word words
block_after block.Table s number word words = row_after s number (word ∷ words)
block_after (block.Script place line from) s number word words = inside_after s number word words

-- why a line is at fault; a line without words is skipped
unfoldable pub cause_of : Seen → ℕ → Line → Option WorkCause
cause_of s number [] = None
cause_of s number (word ∷ words) = block_cause s.block s number word words

-- what is seen below it
unfoldable pub seen_after : Seen → ℕ → Line → Seen
seen_after s number [] = s
seen_after s number (word ∷ words) = block_after s.block s number word words

-- why the end of the input is at fault: a block is open, there is no limit, or the processors have more ticks than a limit allows
abbrev pub is_outside : Block → Bool
is_outside block.Outside = true
is_outside block.Table = false
is_outside (block.Script place line from) = false

abbrev pub limit_cause : Above → Option ℕ → Option WorkCause
limit_cause a None = Some Syntax
limit_cause a (Some limit) = cond (nat_lt (most_ticks / max a.cpus 1) limit) (Some Limits) None

abbrev pub cause_at_end : Seen → Option WorkCause
cause_at_end s = cond (is_outside s.block) (limit_cause s.above s.above.limit) (Some Syntax)
