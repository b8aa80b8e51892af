-- A seat of the table with its hand, and what the calls do to it.
-- Source: this project's own.
use Rattle.std.specs.Prelude.{◌≡◌, ℕ, ◌+◌, ◌-◌, ◌<◌, ◌≤◌, Bool, true, false, ◌&&◌, List, [], ◌∷◌, ◌++◌, map, length, reverse, is_some, ◌==◌, MatchOption, Option, Some, None, vec_len, vec_capacity, ◌⊎◌, ⊤}
use Rattle.std.specs.List.{list_any}
use Rattle.atomic_table.specs.Seated.{TableId}
use Rattle.atomic_table.specs.Table.{rest}
use Rattle.sd_types.specs.declared.numbers.CpuId.{CpuId}
use Rattle.sd_types.specs.declared.numbers.HomeId.{HomeId}
use Rattle.sd_types.specs.declared.numbers.HomeId.TheVariants as id
use Rattle.sd_types.specs.declared.events.Entry.{Entry}
use Rattle.sd_types.specs.declared.events.Event.{Event}
use Rattle.sd_types.specs.declared.events.Hints.{Hints}
use Rattle.sd_types.specs.declared.events.Which.{Which}
use Rattle.sd_types.specs.declared.works.Work.{Work}
use Rattle.sd_state.specs.States.{cpu_of}
use Rattle.sd_state.specs.declared.states.State.{State}
use Rattle.sd_machine.specs.Hints.{hint_shown}
use Rattle.sd_machine.specs.Events.{after, next}
use Rattle.sd_machine.specs.Runs.{IsReached, IsRun}
use Rattle.sd_store.specs.declared.parts.Part.{Part}
use Rattle.sd_store.specs.Parts.{IsAmong}
use Rattle.sd_step.specs.Touched.{after_parts}
use Rattle.sd_homes.specs.declared.home.Home.{Home}
use Rattle.sd_homes.specs.Families.{home_id}
use Rattle.sd_hand.specs.declared.acting.Acting.{Acting}
use Rattle.sd_hand.specs.Acting.{IsShown, has_part}
use Rattle.sd_hand.specs.Hands.{AreApart, HoldsMore, IsHeld, has_thread, held as held_in, how_many_held}
use Rattle.sd_world.specs.Homes.{IsNumber, index_of}
use Rattle.sd_world.specs.Worlds.{Gains, IsQuiet, Meaning, Stays, miss}
use Rattle.sd_world.specs.declared.world.Take.{Take}
use Rattle.sd_world.specs.declared.world.Take.TheVariants.{Taken, Busy}
use Rattle.sd_world.specs.declared.notes.Count.{Count}
use Rattle.sd_shared_rule.specs.declared.views.Desk.{Desk}
use Rattle.sd_shared_rule.specs.declared.views.View.TheVariants.{Works}
use Rattle.sd_shared_rule.specs.declared.views.Written.{Written}
use Rattle.sd_shared_rule.specs.Ledgers.{by}
use Rattle.sd_shared_rule.specs.Movers.{mover}
use Rattle.sd_shared_rule.specs.Places.{Apart, holds, now, sizes}
use Rattle.sd_shared_rule.specs.Plays.{Sees, Slot, desk_of, is_noted, is_written}
use Rattle.sd_shared_rule.specs.Words.{hint_word, tick_word}
use Rattle.sd_shared_table.specs.declared.seat.Held.{Held}
use Rattle.sd_shared_table.specs.declared.seat.Seat.{Seat}
use Rattle.sd_shared_table.specs.declared.shared.Shared.{Shared}

-- the workload of the table, and which table it is
abbrev pub work_of : Shared → Work
work_of t = t.table.shared.key

abbrev pub id_of : Shared → TableId
id_of t = t.table.shared.table_id

abbrev pub desk : Seat → Desk
desk s = desk_of s.place.me.0

-- slots whose homes lie in the hand
abbrev pub lent : List ℕ → List (ℕ × Slot)
lent ks = map (λ k. (k, None)) ks

abbrev pub indices : Work → List Held → List ℕ
indices w hs = map (λ h. index_of (sizes w) h.0) hs

-- each is the number of a home of the run
abbrev pub AreNumbers : Work → List Held → Type 0
AreNumbers w [] = ⊤
AreNumbers w (h ∷ hs) = IsNumber (sizes w) h.0 × AreNumbers w hs

-- this count of the processor was read
unfoldable pub is_counted : List Count → ℕ → ℕ → Bool
is_counted counts c n = list_any (λ x. (x.cpu == c) && (x.number == n)) counts

-- the seat is of this table, knows what the desk says, and its hand holds just the homes that it knows to hold, as they are after the
-- entries that it has seen; the words of these threads are unpublished
pub record FitsAs (t : TableId) (w : Work) (ts : List ℕ) (d : Desk) (s : Seat) : Type 0 where
  pub table : s.place.table_id ≡ t
  pub view : s.place.me ≡ (Works d, lent d.held)
  pub cpu : d.cpu ≡ s.acting.actor.cpu.0
  pub inside : d.cpu < w.cpus
  pub order : d.held ≡ indices w (reverse s.order.items)
  pub each : AreNumbers w (reverse s.order.items)
  pub count : length s.order.items ≡ how_many_held s.acting.hand.slots
  pub apart : Apart d.held
  pub numbers : (k : HomeId) → IsHeld k s.acting.hand.slots → IsNumber (sizes w) k
  pub held : (k : HomeId) → IsNumber (sizes w) k → holds (index_of (sizes w) k) d.held ≡ is_some (held_in k s.acting.hand.slots)
  pub run : IsRun w d.seen
  pub shown : IsShown s.acting (length d.seen) (now w d.seen)
  pub log : s.log.items ≡ by d.cpu d.seen
  pub settled : d.stray ≡ ts
  pub counted : (c n : ℕ) → is_counted d.counts c n ≡ true → n ≤ (cpu_of (now w d.seen) c).count

-- and of no thread
abbrev pub Fits : TableId → Work → Seat → Type 0
Fits t w s = FitsAs t w [] (desk s) s

-- as a world that others share: what was seen is the run as the seat knows it, and what was read of others is what the seat noted at its steps
abbrev pub table_meaning : Work → Seat → ℕ → Meaning
table_meaning w s stops = record {
  table = Some s.place.table_id;
  work = w;
  alone = false;
  all = false;
  acting = s.acting;
  log = s.log.items;
  seen = (desk s).seen;
  spare = vec_capacity s.log - vec_len s.log;
  stops = stops;
  notes = (desk s).counts;
  misses = (desk s).misses;
  glances = (desk s).glances;
  hinted = is_noted (desk s).hints;
  counted = is_counted (desk s).counts;
}

-- as the calls of the table see it, which count no stops
abbrev pub seat_meaning : Work → Seat → Meaning
seat_meaning w s = table_meaning w s 0

abbrev pub SeatStays : Work → Seat → Seat → Type 0
SeatStays w s s' = Stays (seat_meaning w s) (seat_meaning w s')

abbrev pub SeatQuiet : Work → Seat → Seat → Type 0
SeatQuiet w s s' = IsQuiet (seat_meaning w s) (seat_meaning w s')

-- the lock of this home was found taken: the seat noted the word that it found there, which is the holder's number plus 1
pub record Missed (w : Work) (s s' : Seat) (k : HomeId) (holder : ℕ) : Type 0 where
  pub stays : SeatStays w s s'
  pub acting : s'.acting ≡ s.acting
  pub misses : (desk s').misses ≡ miss w k (holder + 1) ∷ (desk s).misses

abbrev pub SeatTakes : Work → Seat → Seat → HomeId → Take → Type 0
SeatTakes w s s' k Taken = (x : Home) × (home_id x ≡ k) × Gains (seat_meaning w s) (seat_meaning w s') x
SeatTakes w s s' k (Busy holder) = Missed w s s' k holder.0

-- the home that was taken last came from its slot to the hand
pub record Lifted (k : HomeId) (index : ℕ) (s s' : Seat) : Type 0 where
  pub home : Home
  pub number : home_id home ≡ k
  pub was : s.place.me.1 ≡ (index, Some home) ∷ rest s.place.me.1
  pub table : s'.place.table_id ≡ s.place.table_id
  pub view : s'.place.me ≡ (s.place.me.0, (index, None) ∷ rest s.place.me.1)
  pub more : HoldsMore s.acting.hand.slots home s'.acting.hand.slots
  pub count : how_many_held s'.acting.hand.slots ≡ how_many_held s.acting.hand.slots + 1
  pub order : s'.order.items ≡ s.order.items ++ record { 0 = k } ∷ []
  pub actor : s'.acting.actor ≡ s.acting.actor
  pub log : s'.log.items ≡ s.log.items

-- the home that was taken last is out of the hand
pub record Lowered (s s' : Seat) (x : Home) : Type 0 where
  pub order : s.order.items ≡ s'.order.items ++ record { 0 = home_id x } ∷ []
  pub more : HoldsMore s'.acting.hand.slots x s.acting.hand.slots
  pub apart : AreApart s'.acting.hand.slots
  pub count : how_many_held s.acting.hand.slots ≡ how_many_held s'.acting.hand.slots + 1
  pub actor : s'.acting.actor ≡ s.acting.actor
  pub log : s'.log ≡ s.log
  pub place : s'.place ≡ s.place

-- the home that was taken last lies in the hand
abbrev pub HasLast : Seat → Type 0
HasLast s = (k : HomeId) (front : List Held) → s.order.items ≡ front ++ record { 0 = k } ∷ [] → is_some (held_in k s.acting.hand.slots) ≡ true

-- a count was read, and noted
pub record SeatCounts (w : Work) (s s' : Seat) (c n : ℕ) : Type 0 where
  pub stays : SeatStays w s s'
  pub acting : s'.acting ≡ s.acting
  pub noted : (desk s').counts ≡ record { cpu = c; number = n } ∷ (desk s).counts
  pub misses : (desk s').misses ≡ (desk s).misses
  pub counted : is_counted (desk s').counts c n ≡ true

-- a hint was read, and noted
pub record SeatHints (w : Work) (s s' : Seat) (c : ℕ) (which : Which) (n : ℕ) : Type 0 where
  pub stays : SeatStays w s s'
  pub quiet : SeatQuiet w s s'
  pub acting : s'.acting ≡ s.acting
  pub noted : (desk s').hints ≡ record { cpu = c; which = which; number = n } ∷ (desk s).hints
  pub hinted : is_noted (desk s').hints c which n ≡ true

-- The entry that a seat makes.

-- there is a state after n entries for which the hand stands and in which the processor may make the event; its hand has all that the
-- event touches
pub record MayMake (w : Work) (n : ℕ) (e : Event) (hints : Option Hints) (x : Acting) : Type 0 where
  pub state : State
  pub reached : IsReached w n state
  pub shown : IsShown x n state
  pub next : next w state x.actor.cpu hints ≡ Some e
  pub holds : (p : Part) → IsAmong p (after_parts w state x.actor.cpu e) → has_part x p ≡ true

-- of each such state the step was made
abbrev pub HasMade : Work → ℕ → Event → Option Hints → Acting → Acting → Type 0
HasMade w n e hints x y = (s : State) → IsReached w n s → IsShown x n s → next w s x.actor.cpu hints ≡ Some e → IsShown y (n + 1) (after w s n x.actor.cpu e)

-- no thread but this, which stands in the hand
abbrev pub IsMoved : ℕ → Acting → List ℕ → Type 0
IsMoved t x ts = (ts ≡ []) ⊎ ((ts ≡ t ∷ []) × (has_thread t x.hand.slots ≡ true))

-- no thread but the event's mover
abbrev pub AreMoved : Event → Acting → List ℕ → Type 0
AreMoved e x ts = MatchOption (mover e) (ts ≡ []) (λ u. IsMoved u.0 x ts)

-- What a seat shows to others.

-- these were written too
abbrev pub showing : Desk → List Written → Desk
showing d more = record d { written = more ++ d.written }

-- numbers were written in which others read, and nothing else was done
pub record HasWritten (s s' : Seat) : Type 0 where
  pub more : List Written
  pub me : s'.place.me ≡ (Works (showing (desk s) more), s.place.me.1)
  pub table : s'.place.table_id ≡ s.place.table_id
  pub acting : s'.acting ≡ s.acting
  pub order : s'.order ≡ s.order
  pub log : s'.log ≡ s.log

-- the hint of processor c is written as it is in each run that the seat may see
abbrev pub ShowsHint : Work → Seat → CpuId → Which → Type 0
ShowsHint w s c which = (h : List Entry) → Sees w (desk s) h → is_written (desk s).written (hint_word w c.0 which) (hint_shown (now w h) which c) ≡ true

-- both hints of the processor whose home this is
abbrev pub ShowsHints : Work → Seat → HomeId → Type 0
ShowsHints w s (id.Cpu c) = (which : Which) → ShowsHint w s c which
ShowsHints w s _ = ⊤

-- the own count is written
abbrev pub ShowsCount : Work → Seat → Type 0
ShowsCount w s = (h : List Entry) → Sees w (desk s) h → is_written (desk s).written (tick_word w (desk s).cpu) (cpu_of (now w h) (desk s).cpu).count ≡ true

-- since the last entry the hints of each processor whose home is held, and the own count, were written, as they are after it
pub record Shows (w : Work) (s : Seat) : Type 0 where
  pub hints : (k : HomeId) → IsHeld k s.acting.hand.slots → ShowsHints w s k
  pub count : ShowsCount w s

-- the words of all threads are published; but for what was written for others, the seat is as it was
pub record Publishes (s s' : Seat) : Type 0 where
  pub desk : desk s' ≡ record (desk s) { stray = []; written = (desk s').written }
  pub acting : s'.acting ≡ s.acting
  pub log : s'.log ≡ s.log
