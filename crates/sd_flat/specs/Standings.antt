-- What the scans look for.
use Rattle.std.specs.Prelude.{ℕ, ◌+◌, Bool, false, not, ◌&&◌, List, [], ◌∷◌, ◌==◌, Option, Some, None, is_none, position, if◌then◌else◌}
use Rattle.sd_types.specs.Priorities.{eff}
use Rattle.sd_state.specs.declared.states.ThreadState.{ThreadState}
use Rattle.sd_state.specs.States.{is_queued, is_ready}
use Rattle.sd_state.specs.Best.{best_by, beats}
use Rattle.sd_machine.specs.Threads.{is_waiting, is_waiting_at, is_asleep, is_asleep_below, is_due, naps_less, greater, is_ts}
use Rattle.sd_flat.specs.declared.standings.Standing.{Standing}
use Rattle.sd_flat.specs.declared.standings.Standing.TheVariants as standing

-- the thread stands there
abbrev pub stands : Standing → ThreadState → Bool
stands (standing.Ready c p) x = is_ready c.0 p.0 x.place
stands (standing.Queued c) x = is_queued c.0 x.place
stands (standing.Unbound c) x = is_queued c.0 x.place && is_none x.body.bound
stands (standing.Waiting l side) x = is_waiting_at l.0 side x.place
stands (standing.Asleep k) x = is_asleep k.0 x.place
stands (standing.AsleepBelow k below) x = is_asleep_below k.0 below x.place

-- the best that stands there
unfoldable pub best_standing : Standing → List ThreadState → Option ℕ
best_standing k threads = best_by (λ x. stands k x) beats threads

-- the first whose nap on processor c is over at this count
unfoldable pub first_over : ℕ → ℕ → List ThreadState → Option ℕ
first_over c count threads = best_by (λ x. is_due c count x.place) naps_less threads

-- the first time-sharing thread on the queue of processor c
unfoldable pub first_to_age : ℕ → List ThreadState → Option ℕ
first_to_age c threads = position (λ x. is_queued c x.place && is_ts x.body.class) threads

-- the number is that of the thread
abbrev pub is_number : ℕ → Option ℕ → Bool
is_number i None = false
is_number i (Some j) = i == j

-- the greatest priority of the waiters of lock l among threads that are numbered from i on, but for one
abbrev pub greatest_but : ℕ → Option ℕ → ℕ → List ThreadState → Option ℕ
greatest_but l but i [] = None
greatest_but l but i (x ∷ xs) =
    if not (is_number i but) && is_waiting l x.place then Some (greater (eff x.body) (greatest_but l but (i + 1) xs)) else greatest_but l but (i + 1) xs
