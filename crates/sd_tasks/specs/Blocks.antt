-- What the reader of a task set has seen: what the lines above say, the lines of two workloads, and the block that is open.
-- The first workload is that by which the set is judged. It has each job once, behind so many operations that of 256 as many
-- are left as a job may have that is written for each of its releases: so of a job that may have k operations where
-- n times (1 + k) is at most 256. The second is that to which the set expands; it lacks the block that is open.
-- Source: this project's own.
use Rattle.std.specs.Prelude.{ℕ, ◌+◌, ◌-◌, ◌/◌, Bool, true, false, not, ◌&&◌, List, [], ◌∷◌, ◌++◌, length, take, drop, max, nat_lt, cond, codes, slice_index_or, slice_set, Option, Some, None}
use Rattle.sd_types.specs.Limits.{most_operations}
use Rattle.sd_script.specs.declared.faults.ScriptFault.TheVariants.{TooLong}
use Rattle.sd_lines.specs.Words.{Word}
use Rattle.sd_declare.specs.declared.causes.WorkCause.{WorkCause}
use Rattle.sd_declare.specs.declared.causes.WorkCause.TheVariants.{Script as Scripted, Unknown, Twice}
use Rattle.sd_tasks.specs.declared.blocks.Block.{Block}
use Rattle.sd_tasks.specs.declared.blocks.Block.TheVariants.{Outside, Table, Script}
use Rattle.sd_tasks.specs.declared.blocks.Repeat.{Repeat}
use Rattle.sd_tasks.specs.Above.{Above, Member, nothing, thread_named, thread_place, is_gated}
use Rattle.sd_tasks.specs.Written.{Written, written, again}

pub record Seen : Type 0 where
  pub above : Above
  pub judged : List Written
  pub written : List Written
  pub block : Block
  -- the repeats that are open, the innermost last
  pub repeats : List Repeat

abbrev pub start : Seen
start = record { above = nothing; judged = []; written = []; block = Outside; repeats = [] }

-- a line that stands in both workloads
abbrev pub with_line : Seen → Written → Seen
with_line s w = record s { judged = s.judged ++ w ∷ []; written = s.written ++ w ∷ [] }

-- ---- a block is opened

-- `job` of what is no task, `script` of a task or of no thread; or one is given
abbrev pub opening_cause : Bool → Option Member → Option WorkCause
opening_cause is_job None = Some Unknown
opening_cause is_job (Some m) = cond (cond is_job m.is_task (not m.is_task)) (cond m.is_given (Some Twice) None) (Some Unknown)

abbrev pub header : Word → ℕ → Written
header name number = written (codes "script " ++ name) number

abbrev pub wait_line : Word → ℕ → Written
wait_line name number = written (codes "semap " ++ name) number

-- the operations behind which the script is judged, none where nothing releases the thread
abbrev pub before_count : Member → ℕ
before_count m = cond (is_gated m) (most_operations + 1 - most_operations / max m.rounds 1) 0

abbrev pub opening_lines : Member → ℕ → List Written
opening_lines m number = header m.name number ∷ again (before_count m) (wait_line m.name number ∷ [])

abbrev pub given : Member → Member
given m = record m { is_given = true }

abbrev pub with_given : Above → ℕ → Member → Above
with_given a place m = record a { threads = slice_set a.threads place (given m) }

unfoldable pub opened : Seen → ℕ → ℕ → Option Member → Seen
opened s number place None = s
opened s number place (Some m) = record s {
  above = with_given s.above place m;
  judged = s.judged ++ opening_lines m number;
  block = Script place number (length (s.judged ++ opening_lines m number));
}

abbrev pub opened_by : Seen → ℕ → Word → Seen
opened_by s number name = opened s number (thread_place s.above name) (thread_named s.above name)

-- ---- a repeat is closed

abbrev pub no_repeat : Repeat
no_repeat = record { times = 1; from = 0 }

abbrev pub innermost : List Repeat → Repeat
innermost repeats = slice_index_or repeats (length repeats - 1) no_repeat

-- its lines are written so often, with those that stand there
abbrev pub with_rounds : Seen → Repeat → Seen
with_rounds s r = record s { judged = s.judged ++ again (r.times - 1) (drop r.from s.judged) }

abbrev pub without_innermost : Seen → Seen
without_innermost s = record s { repeats = take (length s.repeats - 1) s.repeats }

abbrev pub repeat_closed : Seen → Seen
repeat_closed s = with_rounds (without_innermost s) (innermost s.repeats)

-- ---- a block is closed

-- where the lines of the block begin
abbrev pub block_from : Block → ℕ
block_from Outside = 0
block_from Table = 0
block_from (Script place number from) = from

-- the lines of the block
abbrev pub body : Seen → List Written
body s = drop (block_from s.block) s.judged

-- a block has more lines than a script has operations; the line at fault is one of them
abbrev pub body_cause : Seen → Option WorkCause
body_cause s = cond (nat_lt most_operations (length (body s))) (Some (Scripted TooLong)) None

abbrev pub end_line : ℕ → Written
end_line number = written (codes "end") number

-- the script as often as it is written
abbrev pub rounds_lines : Member → ℕ → List Written → List Written
rounds_lines m from lines = cond (is_gated m) (again m.rounds (wait_line m.name from ∷ lines)) lines

abbrev pub block_lines : Option Member → ℕ → List Written → List Written
block_lines None from lines = []
block_lines (Some m) from lines = header m.name from ∷ rounds_lines m from lines

abbrev pub with_block : Seen → ℕ → Option Member → Seen
with_block s from m = record s { written = s.written ++ block_lines m from (body s) }

unfoldable pub closed : Seen → ℕ → ℕ → Option Member → Seen
closed s number from m = record s {
  judged = s.judged ++ end_line number ∷ [];
  written = s.written ++ block_lines m from (body s) ++ end_line number ∷ [];
  block = Outside;
}

-- written for each release it is too long: n times (1 + k) is more than 256 where n is more than 256 / (1 + k); the line at
-- fault is one of it
abbrev pub closing_cause : List Written → Option Member → Option WorkCause
closing_cause lines None = None
closing_cause lines (Some m) = cond (is_gated m && nat_lt (most_operations / (length lines + 1)) m.rounds) (Some (Scripted TooLong)) None
