-- Processors between two stints, which are phases in a row.
-- Source: this project's own.
use Rattle.std.specs.Prelude.{◌≡◌, ℕ, ◌<◌, ◌≤◌, Bool, true, false, List, length, map, nat_lt, Option, Some, None, Result, Ok, Err, slice_index_or, ⊤}
use Rattle.atomic_table.specs.Seated.{TableId}
use Rattle.sd_types.specs.declared.events.Stop.{Stop}
use Rattle.sd_types.specs.declared.events.Stop.TheVariants.{Full}
use Rattle.sd_types.specs.declared.works.Work.{Work}
use Rattle.sd_hand.specs.Hands.{how_many_held}
use Rattle.sd_cpu.specs.declared.phases.Phased.{Phased}
use Rattle.sd_rounds.specs.Rounds.{IsLongRun}
use Rattle.sd_shared_table.specs.declared.seat.Seat.{Seat}
use Rattle.sd_shared_table.specs.Seats.{Fits}
use Rattle.sd_threads.specs.declared.jobs.Job.{Job}

-- the seat fits the table, and its processor holds no home
pub record IsEmptyHanded (t : TableId) (w : Work) (s : Seat) : Type 0 where
  pub fits : Fits t w s
  pub free : how_many_held s.acting.hand.slots ≡ 0

-- it made entries
abbrev pub made_some : Phased → Bool
made_some p = nat_lt 0 p.entries

-- where a phase or a stint was not refused, it made entries exactly where the log has more of them after it
abbrev pub MadeAsLogged : ℕ → ℕ → Result Phased Stop → Type 0
MadeAsLogged before after (Ok p) = made_some p ≡ nat_lt before after
MadeAsLogged before after (Err stop) = ⊤

-- the processor had a phase, or a stint: it holds no home again, its log is no shorter, and it was refused for its length only where a run is that long
pub record HasPhased (t : TableId) (w : Work) (j j' : Job) : Type 0 where
  pub free : IsEmptyHanded t w j'.seat
  pub cpu : j'.seat.acting.actor.cpu ≡ j.seat.acting.actor.cpu
  pub answer : Result Phased Stop
  pub answered : j'.outcome ≡ Some answer
  pub full : j'.outcome ≡ Some (Err Full) → IsLongRun w
  pub made : MadeAsLogged (length j.seat.log.items) (length j'.seat.log.items) answer
  pub grows : length j.seat.log.items ≤ length j'.seat.log.items

abbrev pub HavePhased : TableId → Work → List Job → List Job → Type 0
HavePhased t w js js' = (i : ℕ) (d : Job) → i < length js → HasPhased t w (slice_index_or js i d) (slice_index_or js' i d)

-- one processor after another, in rising order
pub record AreJobs (t : TableId) (w : Work) (js : List Job) : Type 0 where
  pub many : length js ≡ w.cpus
  pub free : (i : ℕ) (d : Job) → i < length js → IsEmptyHanded t w (slice_index_or js i d).seat
  pub cpus : (i : ℕ) (d : Job) → i < length js → (slice_index_or js i d).seat.acting.actor.cpu.0 ≡ i

-- one of them was refused
pub record WasStopped (js : List Job) (stop : Stop) : Type 0 where
  pub index : ℕ
  pub inside : index < length js
  pub job : Job
  pub at : (d : Job) → slice_index_or js index d ≡ job
  pub stopped : job.outcome ≡ Some (Err stop)

-- its last stint made entries
abbrev pub HasActed : Option (Result Phased Stop) → Type 0
HasActed (Some (Ok p)) = made_some p ≡ true
HasActed _ = ⊥

-- its last stint was not refused, and made none
abbrev pub HasRested : Option (Result Phased Stop) → Type 0
HasRested (Some (Err stop)) = ⊥
HasRested (Some (Ok p)) = made_some p ≡ false
HasRested None = ⊤

-- whether it made any
abbrev pub Tells : Option (Result Phased Stop) → Bool → Type 0
Tells o true = HasActed o
Tells o false = HasRested o

-- one of the first n of them
pub record HaveActed (js : List Job) (n : ℕ) : Type 0 where
  pub index : ℕ
  pub inside : index < n
  pub acted : (d : Job) → HasActed (slice_index_or js index d).outcome

-- whether one of them did, or all were at rest
abbrev pub AllTell : List Job → ℕ → Bool → Type 0
AllTell js n true = HaveActed js n
AllTell js n false = (i : ℕ) (d : Job) → i < n → HasRested (slice_index_or js i d).outcome

-- their seats
abbrev pub seats_in : List Job → List Seat
seats_in js = map (λ j. j.seat) js

-- the last stint of each processor was not refused and made no entry: its log is as long as before
pub record AreAtRest (t : TableId) (w : Work) (js' : List Job) : Type 0 where
  pub before : List Job
  pub many : length js' ≡ length before
  pub phased : HavePhased t w before js'
  pub rested : AllTell js' (length js') false
