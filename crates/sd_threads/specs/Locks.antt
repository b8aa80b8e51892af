-- How a processor takes the lock that moves with a thread.
-- Source: Solaris Internals (thread locks: which lock a thread has is read, that lock is taken, and it is read again whether the thread
-- still has it); that a try which fails is answered, and not repeated, is this project's own.
use Rattle.std.specs.Prelude.{◌≡◌, ◌≢◌, ℕ, true, ◌∷◌, is_some, Some, ◌⊎◌}
use Rattle.sd_types.specs.declared.numbers.HomeId.{HomeId}
use Rattle.sd_types.specs.declared.numbers.ThreadId.{ThreadId}
use Rattle.sd_types.specs.declared.works.Work.{Work}
use Rattle.sd_homes.specs.declared.home.Home.{Home}
use Rattle.sd_homes.specs.Families.{home_id}
use Rattle.sd_hand.specs.Hands.{held as held_in}
use Rattle.sd_shared_rule.specs.Places.{now, place_home, sizes}
use Rattle.sd_world.specs.Homes.{IsNumber, index_of}
use Rattle.sd_world.specs.Worlds.{Gains, IsListedIn, glance}
use Rattle.sd_world.specs.declared.world.ThreadLock.{ThreadLock}
use Rattle.sd_world.specs.declared.world.ThreadLock.TheVariants as thread
use Rattle.sd_shared_table.specs.declared.seat.Seat.{Seat}
use Rattle.sd_shared_table.specs.Seats.{Missed, SeatQuiet, SeatStays, desk, seat_meaning}

-- the word of thread t was read, and named this home of the run; where the home is held, the thread stands there
pub record ReadsHome (w : Work) (s s' : Seat) (t : ℕ) (k : HomeId) : Type 0 where
  pub stays : SeatStays w s s'
  pub quiet : SeatQuiet w s s'
  pub acting : s'.acting ≡ s.acting
  pub number : IsNumber (sizes w) k
  pub glances : (desk s').glances ≡ glance w t k ∷ (desk s).glances
  pub here : is_some (held_in k s'.acting.hand.slots) ≡ true → place_home w (now w (desk s').seen) t ≡ index_of (sizes w) k

-- the home was in the hand before; its word was read once
pub record WasHeld (w : Work) (s s' : Seat) (t : ℕ) (k : HomeId) : Type 0 where
  pub stays : SeatStays w s s'
  pub acting : s'.acting ≡ s.acting
  pub glances : (desk s').glances ≡ glance w t k ∷ (desk s).glances

-- or it was taken; its word was read before that and again afterwards
pub record IsTaken (w : Work) (s s' : Seat) (t : ℕ) (k : HomeId) (home : Home) : Type 0 where
  pub gains : Gains (seat_meaning w s) (seat_meaning w s') home
  pub glances : (desk s').glances ≡ glance w t k ∷ (glance w t k ∷ (desk s).glances)

-- the home is in the hand, and the thread stands in one of its lists; it was in the hand before, or was taken
pub record HasLocked (w : Work) (s s' : Seat) (t : ThreadId) (k : HomeId) : Type 0 where
  pub home : Home
  pub number : home_id home ≡ k
  pub named : IsNumber (sizes w) k
  pub here : held_in k s'.acting.hand.slots ≡ Some home
  pub listed : IsListedIn t home
  pub gains : WasHeld w s s' t.0 k ⊎ IsTaken w s s' t.0 k home

-- the word of the thread named the home, whose lock was found taken
pub record IsBusy (w : Work) (s s' : Seat) (t : ℕ) (k : HomeId) (holder : ℕ) : Type 0 where
  pub missed : Missed w s s' k holder
  pub named : IsNumber (sizes w) k
  pub glances : (desk s').glances ≡ glance w t k ∷ (desk s).glances

-- the word of the thread named one home, and while that was held another
pub record HasMoved (w : Work) (s s' : Seat) (t : ℕ) (from to : HomeId) : Type 0 where
  pub stays : SeatStays w s s'
  pub acting : s'.acting ≡ s.acting
  pub named : IsNumber (sizes w) from × IsNumber (sizes w) to
  pub glances : (desk s').glances ≡ glance w t to ∷ (glance w t from ∷ (desk s).glances)
  pub apart : from ≢ to

abbrev pub SeatLocks : Work → Seat → Seat → ThreadId → ThreadLock → Type 0
SeatLocks w s s' t (thread.Held k) = HasLocked w s s' t k
SeatLocks w s s' t (thread.Busy k holder) = IsBusy w s s' t.0 k holder.0
SeatLocks w s s' t (thread.Moved from to) = HasMoved w s s' t.0 from to

-- the home that the word named was taken, and the word, which was read again, named it still; the thread stands in one of its lists
pub record TakesWith (w : Work) (s s' : Seat) (t : ThreadId) (k : HomeId) : Type 0 where
  pub home : Home
  pub number : home_id home ≡ k
  pub listed : IsListedIn t home
  pub gains : Gains (seat_meaning w s) (seat_meaning w s') home
  pub glances : (desk s').glances ≡ glance w t.0 k ∷ (desk s).glances

-- its lock was found taken
pub record MissesAt (w : Work) (s s' : Seat) (k : HomeId) (holder : ℕ) : Type 0 where
  pub missed : Missed w s s' k holder
  pub glances : (desk s').glances ≡ (desk s).glances

-- it was taken and given back, since the word names another home of the run by now
pub record Leaves (w : Work) (s s' : Seat) (t : ℕ) (to : HomeId) : Type 0 where
  pub stays : SeatStays w s s'
  pub acting : s'.acting ≡ s.acting
  pub number : IsNumber (sizes w) to
  pub glances : (desk s').glances ≡ glance w t to ∷ (desk s).glances

-- what comes of a try to take the home that the word of the thread named
abbrev pub SeatTries : Work → Seat → Seat → ThreadId → HomeId → ThreadLock → Type 0
SeatTries w s s' t k (thread.Held j) = (j ≡ k) × TakesWith w s s' t k
SeatTries w s s' t k (thread.Busy j holder) = (j ≡ k) × MissesAt w s s' k holder.0
SeatTries w s s' t k (thread.Moved from to) = (from ≡ k) × (k ≢ to) × Leaves w s s' t.0 to
