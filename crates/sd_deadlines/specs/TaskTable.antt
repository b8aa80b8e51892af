-- The task table: of each task of a task set, how many jobs it had, how soon they were complete, which missed their deadlines, and how
-- long the worst was blocked.
-- Source: response-time analysis (responses, deadlines, blocking); the table is this project's own.
use Rattle.std.specs.Prelude.{ℕ, ◌+◌, ◌-◌, Bool, true, false, min, max, nat_le, nat_lt, List, [], ◌∷◌, length, filter, count_by, sum_by, Option, Some, None, if◌then◌else◌}
use Rattle.sd_types.specs.declared.works.ChanKind.{ChanKind}
use Rattle.sd_types.specs.declared.works.ChanKind.TheVariants.{Sema}
use Rattle.sd_types.specs.declared.works.Work.{Work}
use Rattle.sd_state.specs.declared.states.State.{State}
use Rattle.sd_stretches.specs.declared.histories.History.{History}
use Rattle.sd_stretches.specs.declared.rows.Stretch.{Stretch}
use Rattle.sd_stretches.specs.declared.sights.Doing.{Doing}
use Rattle.sd_stretches.specs.declared.sights.Doing.TheVariants.{Spinning, Waiting}
use Rattle.sd_stretches.specs.declared.spin_pieces.Track.TheVariants as track
use Rattle.sd_stretches.specs.Rows.{next_of}
use Rattle.sd_stretches.specs.SpinPieces.{pieces}
use Rattle.sd_statistics.specs.declared.jobs.Job.{Job}
use Rattle.sd_statistics.specs.declared.jobs.Point.{Point}
use Rattle.sd_statistics.specs.declared.spans.Span.{Span}
use Rattle.sd_deadlines.specs.declared.task_table.Task.{Task}
use Rattle.sd_deadlines.specs.declared.task_table.TaskLine.{TaskLine}
use Rattle.sd_statistics.specs.Spans.{at_most_u64, summary_of, ticks_of}
use Rattle.sd_statistics.specs.Tasks.{kind_of, responses, task_jobs}

-- the jobs of a task of the set
abbrev pub jobs_by : Work → History → State → Task → Option ChanKind → List Job
jobs_by w h s x (Some (Sema count)) = task_jobs w h s x.sema.0 count x.thread
jobs_by w h s x _ = []

abbrev pub set_jobs : Work → History → State → Task → List Job
set_jobs w h s x = jobs_by w h s x (kind_of w x.sema.0)

-- Deadlines.

-- a job released at tick r: complete behind its deadline; or not complete, though the run has come to its deadline
abbrev pub is_late : ℕ → ℕ → Option Point → Bool
is_late due end None = nat_le due end
is_late due end (Some p) = nat_lt due p.tick

-- a job misses its deadline, which is so many ticks behind its release, in a run of so many ticks
abbrev pub misses : Option ℕ → ℕ → Job → Bool
misses None end x = false
misses (Some deadline) end x = is_late (x.release.tick + deadline) end x.completion

abbrev pub release_in : Option Job → Option ℕ
release_in None = None
release_in (Some x) = Some x.release.tick

-- the tick of release of the first that misses
abbrev pub first_miss : Option ℕ → ℕ → List Job → Option ℕ
first_miss deadline end jobs = release_in (next_of (filter (misses deadline end) jobs))

-- The least response.

abbrev pub lesser : Option ℕ → ℕ → Option ℕ
lesser None b = Some b
lesser (Some a) b = Some (min a b)

abbrev pub least_from : Option ℕ → List Span → Option ℕ
least_from least [] = least
least_from least (x ∷ xs) = least_from (lesser least (ticks_of x)) xs

unfoldable pub least : List Span → Option ℕ
least xs = least_from None xs

-- Blocking.

-- it waits for a lock, or spins for one
abbrev pub is_blocked : Doing → Bool
is_blocked (Waiting l) = true
is_blocked (Spinning c l) = true
is_blocked _ = false

-- the ticks of a piece that lie between two ticks
abbrev pub ticks_between : ℕ → ℕ → Stretch → ℕ
ticks_between from to x = min x.to to - max x.from from

abbrev pub blocked_in : ℕ → ℕ → Stretch → ℕ
blocked_in from to x = if is_blocked x.doing then ticks_between from to x else 0

-- the ticks between two ticks over which a thread is blocked, from the pieces of its stretches
abbrev pub blocked_ticks : ℕ → ℕ → List Stretch → ℕ
blocked_ticks from to own = at_most_u64 (sum_by (blocked_in from to) own)

-- of the job with the greatest response, from its release to its completion
abbrev pub worst_blocked : List Stretch → Option Span → Option ℕ
worst_blocked own None = None
worst_blocked own (Some x) = Some (blocked_ticks x.from x.to own)

-- The lines of the table.

abbrev pub line_of : Task → ℕ → List Job → List Span → List Stretch → TaskLine
line_of x end jobs spans own = record {
  task = x;
  released = length jobs;
  responses = summary_of spans;
  least = least spans;
  misses = count_by (misses x.deadline end) jobs;
  first_miss = first_miss x.deadline end jobs;
  blocked = worst_blocked own (summary_of spans).longest;
}

abbrev pub line_from : Work → History → Task → List Job → TaskLine
line_from w h x jobs = line_of x w.limit jobs (responses x.thread jobs) (pieces (track.Thread x.thread) h w.limit)

-- of a task of the set, in a run with this history and this last state
unfoldable pub task_line : Work → History → State → Task → TaskLine
task_line w h s x = line_from w h x (set_jobs w h s x)
