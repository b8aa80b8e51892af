-- What is told of each job of a task: when it was released, started and complete, and who preempted and blocked it.
-- Source: response-time analysis (preemption, blocking); the lines are this project's own.
use Rattle.std.specs.Prelude.{ℕ, ◌-◌, Bool, true, false, ◌&&◌, ◌==◌, nat_le, nat_lt, is_some, List, [], ◌∷◌, ◌++◌, filter, Option, Some, None, if◌then◌else◌}
use Rattle.std.specs.List.{flat_map, list_any}
use Rattle.sd_types.specs.declared.numbers.ThreadId.{ThreadId}
use Rattle.sd_types.specs.declared.events.Event.{Event}
use Rattle.sd_types.specs.declared.events.Event.TheVariants.{Tick, Spin, Preempt, Block}
use Rattle.sd_stretches.specs.declared.changes.Happening.{Happening}
use Rattle.sd_stretches.specs.Rows.{next_of}
use Rattle.sd_statistics.specs.declared.jobs.Job.{Job}
use Rattle.sd_statistics.specs.declared.jobs.Point.{Point}
use Rattle.sd_deadlines.specs.declared.job_lines.Delay.{Delay}

-- whose tick an entry is
abbrev pub ticker : Event → Option ThreadId
ticker (Tick t) = Some t
ticker (Spin t l) = Some t
ticker _ = None

abbrev pub is_thread : ℕ → Option ThreadId → Bool
is_thread t None = false
is_thread t (Some u) = u.0 == t

-- another thread delays thread t from an entry on
abbrev pub delay_by : ℕ → ℕ → Option ThreadId → List Delay
delay_by t entry None = []
delay_by t entry (Some u) = if u.0 == t then [] else record { entry = entry; by = u } ∷ []

-- Preemption: the thread loses its processor, of which another takes the next tick.

abbrev pub ticks_on : ℕ → Happening → Bool
ticks_on c x = (x.cpu.0 == c) && is_some (ticker x.event)

abbrev pub is_preempted : ℕ → Event → Bool
is_preempted t (Preempt u end) = u.0 == t
is_preempted t _ = false

abbrev pub preempted_for : ℕ → ℕ → Option Happening → List Delay
preempted_for t entry None = []
preempted_for t entry (Some y) = delay_by t entry (ticker y.event)

abbrev pub preemption : ℕ → Happening → List Happening → List Delay
preemption t x rest = if is_preempted t x.event then preempted_for t x.entry (next_of (filter (ticks_on x.cpu.0) rest)) else []

-- the preemptions of thread t
unfoldable pub preemptions : ℕ → List Happening → List Delay
preemptions t [] = []
preemptions t (x ∷ xs) = preemption t x xs ++ preemptions t xs

-- Blocking: the thread spins or begins to wait for a lock that another owns.

abbrev pub is_stopped : ℕ → Event → Bool
is_stopped t (Spin u l) = u.0 == t
is_stopped t (Block u l) = u.0 == t
is_stopped t _ = false

abbrev pub block : ℕ → Happening → List Delay
block t x = if is_stopped t x.event then delay_by t x.entry x.owner else []

-- how often thread t is blocked
unfoldable pub blocks : ℕ → List Happening → List Delay
blocks t xs = flat_map (block t) xs

-- What falls into a job: from where it was taken to where it was complete, or to the end of the run.

abbrev pub is_up_to : Option Point → ℕ → Bool
is_up_to None entry = true
is_up_to (Some p) entry = nat_le entry p.entry

abbrev pub is_within_of : Option Point → Option Point → ℕ → Bool
is_within_of None completion entry = false
is_within_of (Some p) completion entry = nat_lt p.entry entry && is_up_to completion entry

abbrev pub is_within : Job → ℕ → Bool
is_within job entry = is_within_of job.taken job.completion entry

-- its first tick
abbrev pub is_start : ℕ → Job → Happening → Bool
is_start t job x = is_within job x.entry && is_thread t (ticker x.event)

abbrev pub tick_before : Option Happening → Option ℕ
tick_before None = None
tick_before (Some x) = Some (x.tick - 1)

-- the tick at which it started to run, from the entries that tell the jobs
abbrev pub start : ℕ → Job → List Happening → Option ℕ
start t job told = tick_before (next_of (filter (is_start t job) told))

-- who delays it, each once

abbrev pub is_among : ThreadId → List ThreadId → Bool
is_among u seen = list_any (λ v. v.0 == u.0) seen

abbrev pub with_thread : List ThreadId → ThreadId → List ThreadId
with_thread seen u = if is_among u seen then seen else seen ++ u ∷ []

abbrev pub with_delay : Job → List ThreadId → Delay → List ThreadId
with_delay job seen d = if is_within job d.entry then with_thread seen d.by else seen

abbrev pub delayers_from : Job → List ThreadId → List Delay → List ThreadId
delayers_from job seen [] = seen
delayers_from job seen (d ∷ ds) = delayers_from job (with_delay job seen d) ds

unfoldable pub delayers : Job → List Delay → List ThreadId
delayers job delays = delayers_from job [] delays
