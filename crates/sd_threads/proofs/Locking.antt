-- A seat still fits after a try to take the home of a thread, and what the try says.
use Rattle.std.proofs.Common.{◌≡◌, ◌≢◌, ℕ, ◌+◌, ◌<◌, true, false, List, [], ◌∷◌, length, is_some, Some, None, refl, sym, ap, ◌∙◌, subst, inl, inr, arith}
use Rattle.std.proofs.lemmas.Bool.Decides.{nat_tests}
use Rattle.sd_basics.proofs.Lists.{none_of}
use Rattle.atomic_table.specs.Seated.{TableId}
use Rattle.atomic_table.specs.Table.{Me, rest}
use Rattle.sd_types.specs.declared.numbers.HomeId.{HomeId}
use Rattle.sd_types.specs.declared.numbers.ThreadId.{ThreadId}
use Rattle.sd_types.specs.declared.events.Entry.{Entry}
use Rattle.sd_types.specs.declared.works.Work.{Work}
use Rattle.sd_state.specs.States.{thread_of}
use Rattle.sd_invariants.proofs.Whole.{fit_reached}
use Rattle.sd_homes.specs.Standing.{home_of}
use Rattle.sd_homes.specs.declared.home.Home.{Home}
use Rattle.sd_hand.specs.declared.acting.Acting.{Acting}
use Rattle.sd_hand.specs.Hands.{HoldsMore, held as held_in, how_many_held}
use Rattle.sd_world.specs.Homes.{IsNumber, IsNumberAt, index_of}
use Rattle.sd_world.specs.Worlds.{Gains, IsListedIn, glance, miss}
use Rattle.sd_world.specs.declared.notes.Glance.{Glance}
use Rattle.sd_world.proofs.NumberLemmas.{same_number}
use Rattle.sd_shared_rule.specs.declared.views.Desk.{Desk}
use Rattle.sd_shared_rule.specs.declared.views.View.{View}
use Rattle.sd_shared_rule.specs.declared.views.View.TheVariants.{Works}
use Rattle.sd_shared_rule.specs.Places.{Stands, holds, now, place_home, sizes, without}
use Rattle.sd_shared_rule.specs.Plays.{Sees, Slot, desk_of, giving, looking, missing, seeing, taking}
use Rattle.sd_shared_rule.specs.Words.{thread_count}
use Rattle.sd_shared_rule.proofs.Bridge.{place_number, reached}
use Rattle.sd_shared_rule.proofs.Lists.{holds_cons, holds_here}
use Rattle.sd_shared_rule.proofs.Since.{since_fewer, since_same, since_then}
use Rattle.sd_shared_table.specs.declared.seat.Seat.{Seat}
use Rattle.sd_shared_table.specs.Intents.{IsDesk}
use Rattle.sd_shared_table.specs.Seats.{Fits, Lifted, SeatQuiet, SeatStays, desk, lent, seat_meaning}
use Rattle.sd_shared_table.proofs.Fitting.{counted_still, fits_taken_at, missed, quiet_by, refits, stays_by}
use Rattle.sd_world.specs.declared.world.ThreadLock.{ThreadLock}
use Rattle.sd_world.specs.declared.world.ThreadLock.TheVariants as thread
use Rattle.sd_world.proofs.WorldLemmas.{quiet_then, stays_then}
use Rattle.sd_hand.proofs.SlotLemmas.{held_id}
use Rattle.sd_threads.specs.Locks.{HasLocked, HasMoved, IsBusy, Leaves, MissesAt, ReadsHome, SeatLocks, SeatTries, TakesWith}
use Rattle.sd_threads.proofs.Listed.{listed_there}

abbrev glance_at : ℕ → ℕ → Glance
glance_at t i = record { thread = t; home = i }

without_first : (k : ℕ) (ks : List ℕ) → without k (k ∷ ks) ≡ ks
unfolding without
without_first k ks = grind (arith, nat_tests)

-- the thread stands in the home that its place names, where that is held
listed_by : (w : Work) (t : TableId) (s : Seat) (u : ThreadId) (k : HomeId) (x : Home) → Fits t w s → IsNumber (sizes w) k → u.0 < thread_count w → place_home w (now w (desk s).seen) u.0 ≡ index_of (sizes w) k
    → held_in k s.acting.hand.slots ≡ Some x → IsListedIn u x
unfolding place_home
listed_by w t s u k x f number there place here =
    let h = (desk s).seen in
    let home = same_number (sizes w) (home_of (thread_of (now w h) u.0)) k (place_number w h f.run u.0) number place in
    let many = (fit_reached w (length h) (now w h) (reached w h f.run)).fits.threads in
    let inside : u.0 < length (now w h).threads = omega (arith, there, many) in
    listed_there (length h) (now w h) u s.acting.hand.slots x f.shown.apart f.shown.homes inside (ap (λ j. held_in j s.acting.hand.slots) home ∙ here)

module _ (w : Work) (t : TableId) (s : Seat) (f : Fits t w s) where
  pub not_held : (k : HomeId) (i : ℕ) → IsNumberAt (sizes w) i k → holds i (desk s).held ≡ false → held_in k s.acting.hand.slots ≡ None
  not_held k i at fresh = none_of (held_in k s.acting.hand.slots) (sym (f.held k at.1) ∙ (ap (λ j. holds j (desk s).held) at.0 ∙ fresh))

  pub not_held-index : (k : HomeId) (i : ℕ) → IsNumberAt (sizes w) i k → held_in k s.acting.hand.slots ≡ None → holds i (desk s).held ≡ false
  not_held-index k i at none = ap (λ j. holds j (desk s).held) (sym at.0) ∙ (f.held k at.1 ∙ ap is_some none)

  -- ---- the word of a thread was read
  module _ (s' : Seat) (h : List Entry) (u n : ℕ) (seen : Sees w (desk s) h) (table : s'.place.table_id ≡ t) (view : s'.place.me ≡ (Works (looking (seeing (desk s) h) u n), s.place.me.1))
      (acting : s'.acting ≡ s.acting) (log : s'.log.items ≡ s.log.items) where
    pub fits_looked : s'.order.items ≡ s.order.items → Fits t w s'
    fits_looked order =
        let d' = looking (seeing (desk s) h) u n in
        refits w t [] [] (desk s) d' s s' f seen refl refl f.settled (counted_still w t [] (desk s) s h f seen) table (view ∙ ap (λ l. (Works d', l)) (ap (λ m. m.1) f.view)) acting order log

    pub reads_home : (k : HomeId) → IsNumberAt (sizes w) n k → ((desk s).stray ≡ [] → holds n (desk s).held ≡ true → place_home w (now w h) u ≡ n) → ReadsHome w s s' u k
    reads_home k at stands =
        let d' = looking (seeing (desk s) h) u n in
        let is : desk s' ≡ d' = ap (λ m. desk_of m.0) view in
        record {
          stays = stays_by w t s s' d' f table is (ap (λ (a : Acting). a.actor) acting) log seen.since.begins (λ c which m e. e) (λ c m e. e);
          quiet = quiet_by w s s' d' is refl refl;
          acting = acting;
          number = at.1;
          glances = ap (λ (d : Desk). d.glances) is ∙ ap (λ i. glance_at u i ∷ (desk s).glances) (sym at.0);
          here = λ has.
              let mine = subst (λ (a : Acting). is_some (held_in k a.hand.slots) ≡ true) acting has in
              let held = ap (λ i. holds i (desk s).held) (sym at.0) ∙ (f.held k at.1 ∙ mine) in
              subst (λ (d : Desk). place_home w (now w d.seen) u ≡ index_of (sizes w) k) (sym is) (stands f.settled held ∙ sym at.0);
        }

  -- ---- the lock was found taken
  pub misses_at : (s' : Seat) (h : List Entry) (i n : ℕ) (k : HomeId) (holder : ℕ) → IsNumberAt (sizes w) i k → Sees w (desk s) h → s'.place.table_id ≡ t → s'.place.me ≡ (Works (missing (seeing (desk s) h) i n), s.place.me.1)
      → s'.acting ≡ s.acting → s'.log.items ≡ s.log.items → n ≡ holder + 1 → MissesAt w s s' k holder
  misses_at s' h i n k holder at seen table view acting log is = record {
    missed = missed w t s s' h i n k holder (sym at.0) f seen table view acting log is;
    glances = ap (λ m. (desk_of m.0).glances) view;
  }

  -- ---- the home was taken, and the word was read again
  module _ (k : HomeId) (i : ℕ) (at : IsNumberAt (sizes w) i k) (x : Home) (h1 h2 : List Entry) (u n : ℕ) (m1 m2 : Me Slot View) (seen1 : Sees w (desk s) h1) (stands1 : Stands w i h1 x)
      (view1 : m1 ≡ (Works (taking (seeing (desk s) h1) i), (i, Some x) ∷ s.place.me.1)) (seen2 : Sees w (desk_of m1.0) h2) (view2 : m2 ≡ (Works (looking (seeing (desk_of m1.0) h2) u n), m1.1)) where
    abbrev d1 : Desk
    d1 = taking (seeing (desk s) h1) i

    abbrev d2 : Desk
    d2 = looking (seeing d1 h2) u n

    -- as if the word had been read twice and the home not taken
    abbrev beside : Desk
    beside = looking (seeing (desk s) h2) u n

    desk1 : desk_of m1.0 ≡ d1
    desk1 = ap (λ m. desk_of m.0) view1

    seen_again : Sees w d1 h2
    seen_again = subst (λ d. Sees w d h2) desk1 seen2

    seen_all : Sees w (desk s) h2
    seen_all = record {
      run = seen_again.run;
      since = since_then w (desk s).cpu (desk s).held (desk s).seen h1 h2 seen1.since (since_fewer w (desk s).cpu (i ∷ (desk s).held) (desk s).held h1 h2 (λ j e. holds_cons j i (desk s).held e) seen_again.since);
    }

    pub stands_again : Stands w i h2 x
    stands_again = seen_again.since.keeps i x (holds_here i (desk s).held) stands1

    whole1 : m1 ≡ (Works d1, (i, Some x) ∷ lent (desk s).held)
    whole1 = view1 ∙ ap (λ l. (Works d1, (i, Some x) ∷ l)) (ap (λ m. m.1) f.view)

    pub whole2 : m2 ≡ (Works d2, (i, Some x) ∷ lent (desk s).held)
    whole2 = view2 ∙ ap (λ m. (Works (looking (seeing (desk_of m.0) h2) u n), m.1)) whole1

    pub is_desk2 : IsDesk m2
    is_desk2 = ap (λ m. m.0) whole2 ∙ ap Works (sym (ap (λ m. desk_of m.0) whole2))

    abbrev pretended : Seat
    pretended = record s { place = record s.place { me = (Works (looking (seeing (desk s) h2) u n), lent (desk s).held) } }

    fits_pretended : Fits t w pretended
    fits_pretended = refits w t [] [] (desk s) beside s pretended f seen_all refl refl f.settled (counted_still w t [] (desk s) s h2 f seen_all) f.table refl refl refl refl

    module _ (s2 s3 : Seat) (me : s2.place.me ≡ m2) (table : s2.place.table_id ≡ t) (acting : s2.acting ≡ s.acting) (order : s2.order.items ≡ s.order.items) (log : s2.log.items ≡ s.log.items)
        (up : Lifted k i s2 s3) where
      pub fits_locked : Fits t w s3
      fits_locked =
          fits_taken_at w t pretended s3 s2 h2 k x i (sym at.0) fits_pretended (record { run = seen_all.run; since = since_same w (desk s).cpu (desk s).held h2 }) stands_again at.1
          (me ∙ whole2) table acting order log up

      desk3 : desk s3 ≡ d2
      desk3 = ap (λ m. desk_of m.0) up.view ∙ ap (λ m. desk_of m.0) (me ∙ whole2)

      gains_locked : Gains (seat_meaning w s) (seat_meaning w s3) up.home
      gains_locked = record {
        stays = stays_by w t s s3 d2 f (up.table ∙ table) desk3 (up.actor ∙ ap (λ (a : Acting). a.actor) acting) (up.log ∙ log) seen_all.since.begins (λ c which m e. e) (λ c m e. e);
        quiet = quiet_by w s s3 d2 desk3 refl refl;
        more = subst (λ (a : Acting). HoldsMore a.hand.slots up.home s3.acting.hand.slots) acting up.more;
        count = subst (λ (a : Acting). how_many_held s3.acting.hand.slots ≡ how_many_held a.hand.slots + 1) acting up.count;
      }

      pub locks_thread : (v : ThreadId) → v.0 ≡ u → v.0 < thread_count w → n ≡ i → ((desk_of m1.0).stray ≡ [] → holds n (desk_of m1.0).held ≡ true → place_home w (now w h2) v.0 ≡ n) → TakesWith w s s3 v k
      locks_thread v whose there same stands =
          let held = ap (λ (d : Desk). holds n d.held) desk1 ∙ (ap (λ j. holds j (i ∷ (desk s).held)) same ∙ holds_here i (desk s).held) in
          let place = stands (ap (λ (d : Desk). d.stray) desk1 ∙ f.settled) held ∙ (same ∙ sym at.0) in
          let place3 = subst (λ (d : Desk). place_home w (now w d.seen) v.0 ≡ index_of (sizes w) k) (sym desk3) place in
          let here = ap (λ j. held_in j s3.acting.hand.slots) (sym up.number) ∙ up.more.here in
          record {
            home = up.home;
            number = up.number;
            listed = listed_by w t s3 v k up.home fits_locked at.1 there place3 here;
            gains = gains_locked;
            glances = ap (λ (d : Desk). d.glances) desk3 ∙ (ap (λ j. glance_at j n ∷ (desk s).glances) (sym whose) ∙ ap (λ j. glance_at v.0 j ∷ (desk s).glances) (same ∙ sym at.0));
          }

    -- ---- it was given back
    pub still_held : holds i (desk_of m2.0).held ≡ true
    still_held = ap (λ m. holds i (desk_of m.0).held) whole2 ∙ holds_here i (desk s).held

    pub still_settled : (desk_of m2.0).stray ≡ []
    still_settled = ap (λ m. (desk_of m.0).stray) whole2 ∙ f.settled

    pub in_front : m2.1 ≡ (i, Some x) ∷ rest m2.1
    in_front = ap (λ m. m.1) whole2 ∙ ap (λ l. (i, Some x) ∷ l) (sym (ap (λ m. rest m.1) whole2))

    pub still_out : (y : Home) × (m2.1 ≡ (i, Some y) ∷ rest m2.1) × Stands w i (desk_of m2.0).seen y
    still_out = (x, in_front, subst (λ h. Stands w i h x) (sym (ap (λ m. (desk_of m.0).seen) whole2)) stands_again)

    module _ (s' : Seat) (table : s'.place.table_id ≡ t) (view : s'.place.me ≡ (Works (giving (desk_of m2.0) i), rest m2.1)) (acting : s'.acting ≡ s.acting) (log : s'.log.items ≡ s.log.items) where
      view_left : s'.place.me ≡ (Works beside, lent (desk s).held)
      view_left = view ∙ (ap (λ m. (Works (giving (desk_of m.0) i), rest m.1)) whole2 ∙ ap (λ ks. (Works (record beside { held = ks }), lent (desk s).held)) (without_first i (desk s).held))

      pub fits_left : s'.order.items ≡ s.order.items → Fits t w s'
      fits_left order = refits w t [] [] (desk s) beside s s' f seen_all refl refl f.settled (counted_still w t [] (desk s) s h2 f seen_all) table view_left acting order log

      pub leaves : (to : HomeId) → IsNumberAt (sizes w) n to → Leaves w s s' u to
      leaves to number =
          let is : desk s' ≡ beside = ap (λ m. desk_of m.0) view_left in
          record {
            stays = stays_by w t s s' beside f table is (ap (λ (a : Acting). a.actor) acting) log seen_all.since.begins (λ c which m e. e) (λ c m e. e);
            acting = acting;
            number = number.1;
            glances = ap (λ (d : Desk). d.glances) is ∙ ap (λ j. glance_at u j ∷ (desk s).glances) (sym number.0);
          }

      pub other_home : (to : HomeId) → IsNumberAt (sizes w) n to → (n ≡ i → ⊥) → k ≢ to
      other_home to number apart e = apart (sym number.0 ∙ (ap (index_of (sizes w)) (sym e) ∙ at.0))

-- ---- the word was read, and the home that it named was tried
module _ (w : Work) (t : TableId) (s s1 : Seat) (u : ThreadId) (k : HomeId) (reads : ReadsHome w s s1 u.0 k) where
  pub locked_already : (x : Home) → Fits t w s1 → IsNumber (sizes w) k → u.0 < thread_count w → held_in k s1.acting.hand.slots ≡ Some x → HasLocked w s s1 u k
  locked_already x f number there here = record {
    home = x;
    number = sym (held_id k x s1.acting.hand.slots here);
    named = number;
    here = here;
    listed = listed_by w t s1 u k x f number there (reads.here (ap is_some here)) here;
    gains = inl (record { stays = reads.stays; acting = reads.acting; glances = reads.glances });
  }

  module _ (s2 : Seat) where
    stays_all : SeatStays w s1 s2 → SeatStays w s s2
    stays_all x = stays_then (seat_meaning w s) (seat_meaning w s1) (seat_meaning w s2) reads.stays x

    quiet_all : SeatQuiet w s1 s2 → SeatQuiet w s s2
    quiet_all x = quiet_then (seat_meaning w s) (seat_meaning w s1) (seat_meaning w s2) reads.quiet x

    locks_held : TakesWith w s1 s2 u k → HasLocked w s s2 u k
    locks_held v = record {
      home = v.home;
      number = v.number;
      named = reads.number;
      here = ap (λ i. held_in i s2.acting.hand.slots) (sym v.number) ∙ v.gains.more.here;
      listed = v.listed;
      gains = inr (record {
        gains = record {
          stays = stays_all v.gains.stays;
          quiet = quiet_all v.gains.quiet;
          more = subst (λ (a : Acting). HoldsMore a.hand.slots v.home s2.acting.hand.slots) reads.acting v.gains.more;
          count = subst (λ (a : Acting). how_many_held s2.acting.hand.slots ≡ how_many_held a.hand.slots + 1) reads.acting v.gains.count;
        };
        glances = v.glances ∙ ap (λ l. glance w u.0 k ∷ l) reads.glances;
      });
    }

    locks_busy : (holder : ℕ) → MissesAt w s1 s2 k holder → IsBusy w s s2 u.0 k holder
    locks_busy holder x = record {
      missed = record {
        stays = stays_all x.missed.stays;
        acting = x.missed.acting ∙ reads.acting;
        misses = x.missed.misses ∙ ap (λ l. miss w k (holder + 1) ∷ l) reads.quiet.misses;
      };
      named = reads.number;
      glances = x.glances ∙ reads.glances;
    }

    locks_moved : (to : HomeId) → k ≢ to → Leaves w s1 s2 u.0 to → HasMoved w s s2 u.0 k to
    locks_moved to apart left = record {
      stays = stays_all left.stays;
      acting = left.acting ∙ reads.acting;
      named = (reads.number, left.number);
      glances = left.glances ∙ ap (λ l. glance w u.0 to ∷ l) reads.glances;
      apart = apart;
    }

    pub locks_from : (r : ThreadLock) → SeatTries w s1 s2 u k r → SeatLocks w s s2 u r
    locks_from (thread.Held j) (same, v) = subst (λ i. HasLocked w s s2 u i) (sym same) (locks_held v)
    locks_from (thread.Busy j holder) (same, x) = subst (λ i. IsBusy w s s2 u.0 i holder.0) (sym same) (locks_busy holder.0 x)
    locks_from (thread.Moved from to) (same, apart, left) = subst (λ i. HasMoved w s s2 u.0 i to) (sym same) (locks_moved to apart left)
