-- The jobs of a task: a thread that takes a unit of a semaphore before each of its jobs.
-- Source: response-time analysis (a job's response is from its release to its completion); jobs by semaphores are this project's own.
use Rattle.std.specs.Prelude.{ℕ, ◌+◌, ◌-◌, Bool, true, false, not, ◌&&◌, ◌==◌, nat_lt, List, [], ◌∷◌, ◌++◌, length, drop, filter, count_by, Option, Some, None, slice_get, unwrap_or, if◌then◌else◌}
use Rattle.std.specs.List.{flat_map, list_any, range_with_len, take_while}
use Rattle.sd_types.specs.declared.events.Event.{Event}
use Rattle.sd_types.specs.declared.events.Event.TheVariants.{Tick, Spin, Done, SemaP, SemaWait, SemaVWake, SemaVCount}
use Rattle.sd_types.specs.declared.scripts.Op.{Op}
use Rattle.sd_types.specs.declared.scripts.Op.TheVariants as op
use Rattle.sd_types.specs.declared.works.ThreadDecl.{ThreadDecl}
use Rattle.sd_types.specs.declared.works.Work.{Work}
use Rattle.sd_state.specs.declared.states.Place.{Place}
use Rattle.sd_state.specs.declared.states.Place.TheVariants.{Running, Queued, RealTime}
use Rattle.sd_state.specs.declared.states.ThreadState.{ThreadState}
use Rattle.sd_state.specs.declared.states.State.{State}
use Rattle.sd_state.specs.Operations.{script_of}
use Rattle.sd_state.specs.States.{thread_of}
use Rattle.sd_stretches.specs.declared.changes.Happening.{Happening}
use Rattle.sd_statistics.specs.declared.jobs.Job.{Job}
use Rattle.sd_statistics.specs.declared.jobs.OpenJob.{OpenJob}
use Rattle.sd_statistics.specs.declared.jobs.Point.{Point}
use Rattle.sd_statistics.specs.declared.jobs.Release.{Release}
use Rattle.sd_statistics.specs.Spans.{state_after}

-- Who is a task.

abbrev pub is_take : ℕ → Op → Bool
is_take k (op.SemaP j) = j.0 == k
is_take k _ = false

-- a script that takes units of semaphore k
abbrev pub takes : ℕ → List Op → Bool
takes k ops = list_any (is_take k) ops

abbrev pub is_taker : ℕ → ThreadDecl → Bool
is_taker k d = takes k d.script.ops

-- how many threads take units of semaphore k
abbrev pub takers : Work → ℕ → ℕ
takers w k = count_by (is_taker k) w.threads

-- Of which entries the jobs of thread t by semaphore k are told: those of the semaphore, and the ticks and the end of the thread.

abbrev pub is_told : ℕ → ℕ → Event → Bool
is_told t k (SemaP u j) = j.0 == k
is_told t k (SemaWait u j) = j.0 == k
is_told t k (SemaVWake u j v at) = j.0 == k
is_told t k (SemaVCount u j n) = j.0 == k
is_told t k (Tick u) = u.0 == t
is_told t k (Spin u l) = u.0 == t
is_told t k (Done u) = u.0 == t
is_told t k _ = false

unfoldable pub told_entries : ℕ → ℕ → List Happening → List Happening
told_entries t k xs = filter (λ x. is_told t k x.event) xs

-- The units of the semaphore that are not handed to a sleeper, in the order of their release, in which they are taken: first those
-- with which it begins, then those that it counts up.

abbrev pub release_at : Happening → Release
release_at x = record { first = state_after x.entry; tick = x.tick }

abbrev pub counted_by : Happening → Event → List Release
counted_by x (SemaVCount t k n) = release_at x ∷ []
counted_by x _ = []

abbrev pub counted_if : Happening → List Release
counted_if x = counted_by x x.event

unfoldable pub counted_up : List Happening → List Release
counted_up xs = flat_map counted_if xs

abbrev pub at_start : Release
at_start = record { first = 0; tick = 0 }

-- the unit behind so many others
abbrev pub unit : ℕ → List Release → ℕ → Release
unit count units n = if nat_lt n count then at_start else unwrap_or (slice_get units (n - count)) at_start

-- an entry takes a unit that was there
unfoldable pub is_taking : Event → Bool
is_taking (SemaP t k) = true
is_taking _ = false

abbrev pub taken_after : ℕ → Event → ℕ
taken_after taken e = if is_taking e then taken + 1 else taken

-- how many were taken
abbrev pub taken_in : List Happening → ℕ
taken_in xs = count_by (λ x. is_taking x.event) xs

-- The job that thread t has taken, and that has not come back: it takes a unit, or is handed one, and comes back where it asks for
-- the next or ends. Of its ticks and spins the last is noted.

abbrev pub point_of : Happening → Point
point_of x = record { entry = x.entry; tick = x.tick }

abbrev pub opened : Release → Happening → OpenJob
opened r x = record { release = r; taken = point_of x; ticked = None }

abbrev pub ticked : Happening → Option OpenJob → Option OpenJob
ticked x None = None
ticked x (Some o) = Some (record o { ticked = Some (point_of x) })

abbrev pub job_after : ℕ → Release → Option OpenJob → Happening → Event → Option OpenJob
job_after t next current x (SemaP u k) = if u.0 == t then Some (opened next x) else current
job_after t next current x (SemaVWake u k v at) = if v.0 == t then Some (opened (release_at x) x) else current
job_after t next current x (SemaWait u k) = if u.0 == t then None else current
job_after t next current x (Done u) = if u.0 == t then None else current
job_after t next current x (Tick u) = if u.0 == t then ticked x current else current
job_after t next current x (Spin u l) = if u.0 == t then ticked x current else current
job_after t next current x _ = current

abbrev pub comes_back : ℕ → Event → Bool
comes_back t (SemaP u k) = u.0 == t
comes_back t (SemaWait u k) = u.0 == t
comes_back t (Done u) = u.0 == t
comes_back t _ = false

abbrev pub job_of : OpenJob → Option Point → Job
job_of o completion = record { release = o.release; taken = Some o.taken; completion = completion }

-- A job that has come back was complete at its last tick or spin; one that had none, where it came back.
abbrev pub job_to : Happening → Option OpenJob → List Job
job_to x None = []
job_to x (Some o) = job_of o (Some (unwrap_or o.ticked (point_of x))) ∷ []

abbrev pub job_if : ℕ → Option OpenJob → Happening → List Job
job_if t current x = if comes_back t x.event then job_to x current else []

-- One that has not come back by the end of the run is complete, at the same place, if all that takes time is over.
abbrev pub job_left : Bool → Option OpenJob → List Job
job_left is_over None = []
job_left is_over (Some o) = job_of o (if is_over then o.ticked else None) ∷ []

-- the jobs that thread t takes, from the entries that tell them: so many units were taken before, and this job is there
unfoldable pub jobs_from : Bool → ℕ → ℕ → List Release → ℕ → Option OpenJob → List Happening → List Job
jobs_from is_over t count units taken current [] = job_left is_over current
jobs_from is_over t count units taken current (x ∷ xs) =
    job_if t current x
    ++ jobs_from is_over t count units (taken_after taken x.event) (job_after t (unit count units taken) current x x.event) xs

unfoldable pub jobs_taken : Bool → ℕ → ℕ → List Happening → List Job
jobs_taken is_over t count told = jobs_from is_over t count (counted_up told) 0 None told

-- The jobs of units that nobody has taken. They are the thread's, if no other takes units of the semaphore.

abbrev pub untaken_job : Release → Job
untaken_job r = record { release = r; taken = None; completion = None }

abbrev pub untaken_at : ℕ → List Release → ℕ → ℕ → List Job
untaken_at count units taken i = untaken_job (unit count units (taken + i)) ∷ []

unfoldable pub untaken_from : ℕ → List Release → ℕ → List Job
untaken_from count units taken = flat_map (untaken_at count units taken) (range_with_len 0 (count + length units - taken))

unfoldable pub jobs_untaken : Bool → ℕ → List Happening → List Job
jobs_untaken is_only count told = if is_only then untaken_from count (counted_up told) (taken_in told) else []

-- What takes time at the end of the run.

-- an operation that takes ticks, or for which a thread can wait
abbrev pub is_long : Op → Bool
is_long (op.Run n) = true
is_long (op.Nap n) = true
is_long (op.Sleep k) = true
is_long (op.CvWait k l) = true
is_long (op.SemaP k) = true
is_long (op.Enter l) = true
is_long (op.Read l) = true
is_long (op.Write l) = true
is_long _ = false

-- of these operations, those that belong to a job by semaphore k: up to the next take
abbrev pub job_ops : ℕ → List Op → List Op
job_ops k ops = take_while (λ o. not (is_take k o)) ops

abbrev pub has_long : ℕ → List Op → Bool
has_long k ops = list_any is_long (job_ops k ops)

-- it runs, or stands on a dispatch queue
abbrev pub is_ready : Place → Bool
is_ready (Running c) = true
is_ready (Queued c key) = true
is_ready (RealTime p key) = true
is_ready _ = false

-- a thread in this state, with this script, has nothing left in a job by semaphore k that takes time
abbrev pub is_over_in : ℕ → List Op → ThreadState → Bool
is_over_in k ops x = is_ready x.place && not (has_long k (drop x.body.op ops))

abbrev pub is_over : Work → State → ℕ → ℕ → Bool
is_over w s k t = is_over_in k (script_of w t) (thread_of s t)

-- The jobs of thread t by semaphore k, which begins with so many units, in a run with these entries and this last state: those that
-- it took, and those that wait to be taken.
unfoldable pub jobs_of : Work → State → ℕ → ℕ → ℕ → List Happening → List Job
jobs_of w s k count t told = jobs_taken (is_over w s k t) t count told ++ jobs_untaken (takers w k == 1) count told
