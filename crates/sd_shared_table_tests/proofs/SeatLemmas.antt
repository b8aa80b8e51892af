-- A seat that holds no home may take one, and after a call it is a seat of its processor still.
use Rattle.std.proofs.Common.{◌≡◌, ℕ, ◌<◌, List, [], ◌∷◌, ◌++◌, length, slice_get, is_some, ap, ◌∙◌, ⊎_elim, arith}
use Rattle.atomic_table.specs.Seated.{TableId}
use Rattle.sd_types.specs.declared.numbers.CpuId.{CpuId}
use Rattle.sd_types.specs.declared.numbers.HomeId.{HomeId}
use Rattle.sd_types.specs.declared.numbers.HomeId.TheVariants as id
use Rattle.sd_types.specs.declared.numbers.ThreadId.{ThreadId}
use Rattle.sd_types.specs.declared.works.Work.{Work}
use Rattle.sd_invariants.proofs.Whole.{fit_reached}
use Rattle.sd_hand.specs.declared.acting.Acting.{Acting}
use Rattle.sd_hand.specs.declared.acting.Actor.{Actor}
use Rattle.sd_hand.specs.Hands.{how_many_held}
use Rattle.sd_hand.proofs.CountLemmas.{none_held}
use Rattle.sd_world.specs.declared.world.Take.{Take}
use Rattle.sd_world.specs.declared.world.Take.TheVariants as take
use Rattle.sd_world.specs.declared.world.ThreadLock.{ThreadLock}
use Rattle.sd_world.specs.declared.world.ThreadLock.TheVariants as thread
use Rattle.sd_world.specs.Worlds.{CanTake}
use Rattle.sd_shared_rule.specs.Places.{now}
use Rattle.sd_shared_rule.proofs.Bridge.{reached}
use Rattle.sd_shared_table.specs.declared.seat.Seat.{Seat}
use Rattle.sd_shared_table.specs.Seats.{Fits, SeatTakes, desk, seat_meaning}
use Rattle.sd_shared_table.specs.Whole.{AreSeats, IsSeatOf}
use Rattle.sd_threads.specs.Locks.{IsTaken, SeatLocks, WasHeld}
use Rattle.sd_shared_table_tests.specs.Sitting.{GoesOn, HasSought, HasTried, IsFreeAfter}

module _ (t : TableId) (w : Work) where
  -- the home of processor 0
  pub can_take : (s : Seat) → Fits t w s → how_many_held s.acting.hand.slots ≡ 0 → CanTake (seat_meaning w s) (id.Cpu (record { 0 = 0 }))
  can_take s f free =
      let h = (desk s).seen in
      let cpus = (fit_reached w (length h) (now w h) (reached w h f.run)).fits.cpus in
      let some = w.some_cpu in
      record {
        there = omega (arith, cpus, some);
        room = λ few. (let z : how_many_held s.acting.hand.slots < 4 = omega (arith, free) in z);
        fresh = λ few. ap is_some (none_held (id.Cpu (record { 0 = 0 })) s.acting.hand.slots free);
      }

  goes : (s s' : Seat) → Fits t w s' → s'.acting.actor ≡ s.acting.actor → GoesOn t w s s'
  goes s s' fits actor = record { fits = fits; cpu = ap (λ (a : Actor). a.cpu) actor }

  free_still : (s s' : Seat) → how_many_held s.acting.hand.slots ≡ 0 → Fits t w s' → s'.acting ≡ s.acting → IsFreeAfter t w s s'
  free_still s s' free fits acting = record {
    goes_on = goes s s' fits (ap (λ (a : Acting). a.actor) acting);
    free = ap (λ (a : Acting). how_many_held a.hand.slots) acting ∙ free;
  }

  pub tried : (s s' : Seat) (k : HomeId) (r : Take) → how_many_held s.acting.hand.slots ≡ 0 → Fits t w s' → SeatTakes w s s' k r → HasTried t w s s' r
  tried s s' k take.Taken free fits takes = goes s s' fits takes.2.stays.actor
  tried s s' k (take.Busy holder) free fits missed = free_still s s' free fits missed.acting

  pub sought : (s s' : Seat) (u : ThreadId) (r : ThreadLock) → how_many_held s.acting.hand.slots ≡ 0 → Fits t w s' → SeatLocks w s s' u r → HasSought t w s s' r
  sought s s' u (thread.Held k) free fits locks =
      goes s s' fits (⊎_elim (λ (x : WasHeld w s s' u.0 k). x.stays.actor) (λ (x : IsTaken w s s' u.0 k locks.home). x.gains.stays.actor) locks.gains)
  sought s s' u (thread.Busy k holder) free fits locks = free_still s s' free fits locks.missed.acting
  sought s s' u (thread.Moved from to) free fits locks = free_still s s' free fits locks.acting

  pub free_then : (s s' s'' : Seat) → GoesOn t w s s' → IsFreeAfter t w s' s'' → IsFreeAfter t w s s''
  free_then s s' s'' x y = record { goes_on = record { fits = y.goes_on.fits; cpu = y.goes_on.cpu ∙ x.cpu }; free = y.free }

  pub seat_after : (c : ℕ) (s s' : Seat) → s.acting.actor.cpu.0 ≡ c → IsFreeAfter t w s s' → IsSeatOf t w c s'
  seat_after c s s' cpu x = record { fits = x.goes_on.fits; cpu = ap (λ (d : CpuId). d.0) x.goes_on.cpu ∙ cpu; free = x.free }

-- ---- the two seats of a table
pub popped : (seats one none : List Seat) (first second : Seat) → seats ≡ one ++ second ∷ [] → one ≡ none ++ first ∷ [] → none ≡ [] → seats ≡ first ∷ second ∷ []
popped seats one none first second e d is = e ∙ ap (λ (xs : List Seat). xs ++ second ∷ []) (d ∙ ap (λ (xs : List Seat). xs ++ first ∷ []) is)

pub first_seat : (t : TableId) (w : Work) (seats : List Seat) (first second : Seat) → AreSeats t w seats → seats ≡ first ∷ second ∷ [] → IsSeatOf t w 0 first
first_seat t w seats first second are e = are.each 0 first (ap (λ (xs : List Seat). slice_get xs 0) e)

pub second_seat : (t : TableId) (w : Work) (seats : List Seat) (first second : Seat) → AreSeats t w seats → seats ≡ first ∷ second ∷ [] → IsSeatOf t w 1 second
second_seat t w seats first second are e = are.each 1 second (ap (λ (xs : List Seat). slice_get xs 1) e)
