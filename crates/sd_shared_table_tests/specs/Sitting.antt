-- A processor at a table, between two calls.
-- Source: this project's own.
use Rattle.std.specs.Prelude.{◌≡◌}
use Rattle.atomic_table.specs.Seated.{TableId}
use Rattle.sd_types.specs.declared.works.Work.{Work}
use Rattle.sd_hand.specs.Hands.{how_many_held}
use Rattle.sd_world.specs.declared.world.Take.{Take}
use Rattle.sd_world.specs.declared.world.Take.TheVariants as take
use Rattle.sd_world.specs.declared.world.ThreadLock.{ThreadLock}
use Rattle.sd_world.specs.declared.world.ThreadLock.TheVariants as thread
use Rattle.sd_shared_table.specs.declared.seat.Seat.{Seat}
use Rattle.sd_shared_table.specs.Seats.{Fits, id_of, work_of}
use Rattle.sd_threads.specs.declared.world.TableWorld.{TableWorld}
use Rattle.sd_threads.specs.Tables.{IsTable}

-- the seat goes on from another, as the seat of the same processor
pub record GoesOn (t : TableId) (w : Work) (s s' : Seat) : Type 0 where
  pub fits : Fits t w s'
  pub cpu : s'.acting.actor.cpu ≡ s.acting.actor.cpu

-- and no home is held
pub record IsFreeAfter (t : TableId) (w : Work) (s s' : Seat) : Type 0 where
  pub goes_on : GoesOn t w s s'
  pub free : how_many_held s'.acting.hand.slots ≡ 0

-- a seat that held no home tried to take one
abbrev pub HasTried : TableId → Work → Seat → Seat → Take → Type 0
HasTried t w s s' take.Taken = GoesOn t w s s'
HasTried t w s s' (take.Busy holder) = IsFreeAfter t w s s'

-- or that of a thread
abbrev pub HasSought : TableId → Work → Seat → Seat → ThreadLock → Type 0
HasSought t w s s' (thread.Held k) = GoesOn t w s s'
HasSought t w s s' (thread.Busy k holder) = IsFreeAfter t w s s'
HasSought t w s s' (thread.Moved from to) = IsFreeAfter t w s s'

-- the table as a world, whose seat goes on from this one and holds no home
pub record IsWorldAfter (t : TableId) (w : Work) (s : Seat) (x : TableWorld) : Type 0 where
  pub good : IsTable x
  pub id : id_of x.shared.now ≡ t
  pub work : work_of x.shared.now ≡ w
  pub seat : IsFreeAfter t w s x.seat
