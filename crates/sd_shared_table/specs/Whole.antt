-- The table with all of its seats, as it is opened and closed.
-- Source: this project's own.
use Rattle.std.specs.Prelude.{◌≡◌, ℕ, ◌*◌, ◌<◌, ◌^◌, List, [], length, map, slice_get, slice_index, slice_index_or, Option, Some}
use Rattle.std.specs.List.{All}
use Rattle.atomic_table.specs.Seated.{TableId}
use Rattle.sd_types.specs.declared.numbers.HomeId.{HomeId}
use Rattle.sd_types.specs.declared.events.Entry.{Entry}
use Rattle.sd_types.specs.declared.works.Work.{Work}
use Rattle.sd_state.specs.declared.states.State.{State}
use Rattle.sd_homes.specs.declared.home.Home.{Home}
use Rattle.sd_hand.specs.Hands.{held as held_in, how_many_held}
use Rattle.sd_machine.specs.Runs.{IsRun}
use Rattle.sd_world.specs.Homes.{IsNumberAt, Sizes}
use Rattle.sd_shared_rule.specs.declared.views.View.TheVariants.{Gathers}
use Rattle.sd_shared_rule.specs.Ledgers.{Since, by}
use Rattle.sd_shared_rule.specs.Places.{Stands, home_count, place_home}
use Rattle.sd_shared_rule.specs.Plays.{Slot}
use Rattle.sd_shared_rule.specs.Words.{hint_at, lock_of, tick_of, word_count, word_of}
use Rattle.sd_shared_table.specs.declared.closing.Ended.{Ended}
use Rattle.sd_shared_table.specs.declared.closing.Gathered.{Gathered}
use Rattle.sd_shared_table.specs.declared.seat.Seat.{Seat}
use Rattle.sd_shared_table.specs.Seats.{Fits, desk}

-- the seat of processor c, which holds no home
pub record IsSeatOf (t : TableId) (w : Work) (c : ℕ) (s : Seat) : Type 0 where
  pub fits : Fits t w s
  pub cpu : s.acting.actor.cpu.0 ≡ c
  pub free : how_many_held s.acting.hand.slots ≡ 0

-- a seat for each processor, in rising order, and no home is held
pub record AreSeats (t : TableId) (w : Work) (seats : List Seat) : Type 0 where
  pub many : length seats ≡ w.cpus
  pub each : (c : ℕ) (s : Seat) → slice_get seats c ≡ Some s → IsSeatOf t w c s

-- no processor has made an entry
abbrev pub AreNew : List Seat → Type 0
AreNew seats = (c : ℕ) (s : Seat) → slice_get seats c ≡ Some s → s.log.items ≡ []

-- the entries of each processor are those of its seat's log
abbrev pub AreLogged : List Entry → List Seat → Type 0
AreLogged h seats = (c : ℕ) (s : Seat) → slice_get seats c ≡ Some s → by c h ≡ s.log.items

-- The table at its opening.

-- the words of a table, where no home is held and no entry was made: each thread's word names its home
pub record AreFirstWords (w : Work) (s : State) (ws : List ℕ) : Type 0 where
  pub many : length ws ≡ word_count w
  pub locks : (k : ℕ) → lock_of w ws k ≡ 0
  pub stamp : slice_index ws (home_count w) ≡ 0
  pub threads : (t : ℕ) → t < length w.threads → word_of w ws t ≡ place_home w s t
  pub ticks : (c : ℕ) → tick_of w ws c ≡ 0
  pub hints : (i : ℕ) → hint_at w ws i < 2 ^ 8

-- two hints for each processor
pub record AreHints (w : Work) (hints : List ℕ) : Type 0 where
  pub many : length hints ≡ 2 * w.cpus
  pub small : All (λ n. n < 2 ^ 8) hints

-- in the first m slots lie homes that were held, each in the slot of its index
pub record HasLaid (z : Sizes) (hs : List (Option Home)) (slots : List Slot) (i : ℕ) : Type 0 where
  pub number : HomeId
  pub at : IsNumberAt z i number
  pub home : Home
  pub was : held_in number hs ≡ Some home
  pub there : slice_get slots i ≡ Some (Some home)

pub record AreLaid (z : Sizes) (hs : List (Option Home)) (m : ℕ) (slots : List Slot) : Type 0 where
  pub many : length slots ≡ m
  pub each : (i : ℕ) → i < m → HasLaid z hs slots i

-- The table at its end.

-- these seats were gathered: what each had seen, its processor and its log
pub record IsGathered (t : TableId) (seats : List Seat) (g : Gathered) : Type 0 where
  pub table : g.place.table_id ≡ t
  pub view : g.place.me ≡ (Gathers (map (λ s. (desk s).seen) seats), [])
  pub actors : g.actors.items ≡ map (λ s. s.acting.actor) seats
  pub logs : g.logs.items ≡ map (λ s. s.log) seats

-- a run as the table had it at its end: each home lies in its slot and stands for the state after it, and no processor has made an
-- entry since it had seen that much
pub record HasEnded (w : Work) (seens : List (List Entry)) (x : Ended) : Type 0 where
  pub entries : List Entry
  pub run : IsRun w entries
  pub count : x.count ≡ length entries
  pub many : length x.slots.items ≡ home_count w
  pub homes : (k : ℕ) → k < home_count w → (h : Home) × (slice_get x.slots.items k ≡ Some (Some h)) × Stands w k entries h
  pub since : (c : ℕ) → c < w.cpus → Since w c [] (slice_index_or seens c []) entries
