-- A seat still fits after a call.
use Rattle.std.proofs.Common.{◌≡◌, ◌≢◌, ℕ, ◌+◌, ◌<◌, ◌≤◌, Bool, true, false, List, [], ◌∷◌, ◌++◌, length, reverse, is_some, Option, Some, None, refl, sym, ap, ◌∙◌, subst, inl, inr, ⊎_elim, ◌⊎◌, arith, length-append}
use Rattle.std.specs.Prelude.{◌&&◌, ◌||◌, ◌==◌}
use Rattle.std.proofs.lemmas.Bool.{eq-eqb, eqb-true, false≢true}
use Rattle.std.proofs.lemmas.Bool.Decides.{nat_tests}
use Rattle.std.proofs.lemmas.Grind.{common_steps}
use Rattle.atomic_table.specs.Table.{rest}
use Rattle.arrayvec.specs.ArrayVec.{ArrayVec}
use Rattle.sd_basics.proofs.Truths.{or_always}
use Rattle.atomic_table.specs.Seated.{TableId}
use Rattle.sd_types.specs.declared.numbers.HomeId.{HomeId}
use Rattle.sd_types.specs.declared.events.Entry.{Entry}
use Rattle.sd_types.specs.declared.events.Which.{Which}
use Rattle.sd_types.specs.declared.works.Work.{Work}
use Rattle.sd_state.specs.States.{cpu_of}
use Rattle.sd_invariants.proofs.Whole.{fit_reached}
use Rattle.sd_homes.specs.declared.home.Home.{Home}
use Rattle.sd_homes.specs.Families.{home_id, same_home}
use Rattle.sd_hand.specs.declared.acting.Acting.{Acting}
use Rattle.sd_hand.specs.declared.acting.Actor.{Actor}
use Rattle.sd_hand.specs.Acting.{IsShown}
use Rattle.sd_hand.specs.Hands.{HoldsMore, IsHeld, held, how_many_held}
use Rattle.sd_hand.specs.Shown.{IsHome}
use Rattle.sd_homes.specs.Standing.{look_of}
use Rattle.sd_hand.proofs.SlotLemmas.{held_id, same_home_self, same_home_true}
use Rattle.sd_world.specs.Homes.{IsNumber, index_of}
use Rattle.sd_world.specs.Worlds.{Begins, Gains, IsGood, MayStand}
use Rattle.sd_world.proofs.NumberLemmas.{same_number}
use Rattle.sd_world.specs.declared.notes.Count.{Count}
use Rattle.sd_world.specs.declared.notes.Miss.{Miss}
use Rattle.sd_shared_rule.specs.declared.views.Desk.{Desk}
use Rattle.sd_shared_rule.specs.declared.views.Note.{Note}
use Rattle.sd_shared_rule.specs.declared.views.View.TheVariants.{Works}
use Rattle.sd_shared_rule.specs.Ledgers.{by}
use Rattle.sd_shared_rule.specs.Places.{Apart, Stands, holds, now, sizes, without}
use Rattle.sd_shared_rule.specs.Plays.{Sees, Slot, desk_of, giving, hinted, is_note, is_noted, missing, noting, seeing, taking}
use Rattle.sd_shared_rule.specs.Words.{which_word}
use Rattle.sd_shared_rule.proofs.Bridge.{reached}
use Rattle.sd_shared_rule.proofs.Lists.{holds-cons_else, holds_here}
use Rattle.sd_shared_rule.proofs.Since.{reached_still, since_same}
use Rattle.sd_shared_table.specs.declared.seat.Held.{Held}
use Rattle.sd_shared_table.specs.declared.seat.Seat.{Seat}
use Rattle.sd_shared_table.specs.Seats.{AreNumbers, Fits, FitsAs, HasLast, Lifted, Lowered, Missed, SeatCounts, SeatHints, SeatQuiet, SeatStays, desk, indices, is_counted, lent, seat_meaning, table_meaning}
use Rattle.sd_world.proofs.WorldLemmas.{begins_same}

abbrev first_slot : List (ℕ × Slot) → Slot
first_slot [] = None
first_slot (y ∷ ys) = y.1

same_or : (j k : HomeId) → (j ≡ k) ⊎ (j ≡ k → ⊥)
same_or j k = by (same_home j k) refl
  where
    by : (b : Bool) → same_home j k ≡ b → (j ≡ k) ⊎ (j ≡ k → ⊥)
    by true e = inl (same_home_true j k e)
    by false e = inr (λ is. false≢true (sym e ∙ (ap (λ i. same_home i k) is ∙ same_home_self k)))

module _ (w : Work) where
  pub fits_as : (t : TableId) (ts : List ℕ) (d : Desk) (s : Seat) → FitsAs t w ts d s → FitsAs t w ts (desk s) s
  fits_as t ts d s f = subst (λ y. FitsAs t w ts y s) (sym (ap (λ m. desk_of m.0) f.view)) f

  -- a home of the hand stands, as the home of its index
  pub stands_in_hand : (t : TableId) (ts : List ℕ) (d : Desk) (s : Seat) (k : HomeId) (x : Home) → FitsAs t w ts d s → held k s.acting.hand.slots ≡ Some x → Stands w (index_of (sizes w) k) d.seen x
  stands_in_hand t ts d s k x f e =
      let is : k ≡ home_id x = held_id k x s.acting.hand.slots e in
      record {
        placed = record { number = subst (IsNumber (sizes w)) is (f.numbers k (x, e)); index = ap (index_of (sizes w)) (sym is) };
        shown = f.shown.homes k x e;
      }

  -- what the hand shows, it shows of each run that the seat may see
  pub shown_since : (t : TableId) (ts : List ℕ) (d : Desk) (s : Seat) (h : List Entry) → FitsAs t w ts d s → Sees w d h → IsShown s.acting (length h) (now w h)
  shown_since t ts d s h f seen =
      let fits = (fit_reached w (length h) (now w h) (reached w h seen.run)).fits in
      let cpu = f.cpu in
      record {
        homes = λ k x e. (seen.since.keeps (index_of (sizes w) k) x (f.held k (f.numbers k (x, e)) ∙ ap is_some e) (stands_in_hand t ts d s k x f e)).shown;
        apart = f.shown.apart;
        inside = (let i = f.inside in let c = fits.cpus in omega (arith, i, c, cpu));
        count = f.shown.count ∙ subst (λ c. (cpu_of (now w d.seen) c).count ≡ (cpu_of (now w h) c).count) cpu seen.since.count;
        duty = f.shown.duty ∙ subst (λ c. (cpu_of (now w d.seen) c).duty ≡ (cpu_of (now w h) c).duty) cpu seen.since.duty;
        locks = (let a = fits.locks in let b = w.most_locks in omega (arith, a, b));
        chans = (let a = fits.chans in let b = w.most_chans in omega (arith, a, b));
      }

  pub may_stand : (t : TableId) (s : Seat) (h : List Entry) → Fits t w s → Sees w (desk s) h → MayStand (seat_meaning w s) h
  may_stand t s h f seen = record { run = seen.run; begins = seen.since.begins; still = λ e. absurd (false≢true e); shown = shown_since t [] (desk s) s h f seen }

  -- the seat as a world is good
  pub table_good : (t : TableId) (s : Seat) (stops : ℕ) → Fits t w s → IsGood (table_meaning w s stops)
  table_good t s stops f = record {
    stands = record { run = f.run; begins = begins_same (desk s).seen; still = λ e. absurd (false≢true e); shown = f.shown };
    cpu = subst (λ c. c < w.cpus) f.cpu f.inside;
    everything = λ e. absurd (false≢true e);
    reached = λ d n is h may. reached_still w (desk s).seen h may.begins may.run d n (f.counted d n is);
  }

  -- the seat has seen more and noted something; its hand is as it was
  pub refits : (t : TableId) (ts new : List ℕ) (d d' : Desk) (s s' : Seat) → FitsAs t w ts d s → Sees w d d'.seen → d'.cpu ≡ d.cpu → d'.held ≡ d.held → d'.stray ≡ new → ((c n : ℕ) → is_counted d'.counts c n ≡ true → n ≤ (cpu_of (now w d'.seen) c).count)
      → s'.place.table_id ≡ t → s'.place.me ≡ (Works d', lent d.held) → s'.acting ≡ s.acting → s'.order.items ≡ s.order.items → s'.log.items ≡ s.log.items → FitsAs t w new (desk s') s'
  refits t ts new d d' s s' f seen cpu held_is stray counted table view acting order log = fits_as t new d' s' (record {
    table = table;
    view = view ∙ ap (λ ks. (Works d', lent ks)) (sym held_is);
    cpu = cpu ∙ (f.cpu ∙ ap (λ (a : Acting). a.actor.cpu.0) (sym acting));
    inside = subst (λ c. c < w.cpus) (sym cpu) f.inside;
    order = held_is ∙ (f.order ∙ ap (λ o. indices w (reverse o)) (sym order));
    each = subst (λ o. AreNumbers w (reverse o)) (sym order) f.each;
    count = ap length order ∙ (f.count ∙ ap (λ (a : Acting). how_many_held a.hand.slots) (sym acting));
    apart = subst Apart (sym held_is) f.apart;
    numbers = λ k is. f.numbers k (subst (λ (a : Acting). IsHeld k a.hand.slots) acting is);
    held = λ k is. ap (holds (index_of (sizes w) k)) held_is ∙ (f.held k is ∙ ap (λ (a : Acting). is_some (held k a.hand.slots)) (sym acting));
    run = seen.run;
    shown = subst (λ a. IsShown a (length d'.seen) (now w d'.seen)) (sym acting) (shown_since t ts d s d'.seen f seen);
    log = log ∙ (f.log ∙ (seen.since.mine ∙ ap (λ c. by c d'.seen) (sym cpu)));
    settled = stray;
    counted = counted;
  })

  -- counts that were read are so still
  pub counted_still : (t : TableId) (ts : List ℕ) (d : Desk) (s : Seat) (h : List Entry) → FitsAs t w ts d s → Sees w d h → (c n : ℕ) → is_counted d.counts c n ≡ true → n ≤ (cpu_of (now w h) c).count
  counted_still t ts d s h f seen c n is = reached_still w d.seen h seen.since.begins seen.run c n (f.counted c n is)

  pub stays_seen : (s s' : Seat) → s'.place.table_id ≡ s.place.table_id → s'.acting.actor ≡ s.acting.actor → s'.log.items ≡ s.log.items → Begins (desk s).seen (desk s').seen
      → ((c : ℕ) (which : Which) (n : ℕ) → is_noted (desk s).hints c which n ≡ true → is_noted (desk s').hints c which n ≡ true)
      → ((c n : ℕ) → is_counted (desk s).counts c n ≡ true → is_counted (desk s').counts c n ≡ true) → SeatStays w s s'
  stays_seen s s' table actor log begins hinted counted =
      record { table = ap Some table; work = refl; alone = refl; all = refl; actor = actor; log = log; begins = begins; still = λ e. absurd (false≢true e); hinted = hinted; counted = counted }

  -- what stays where the desk is known
  pub stays_by : (t : TableId) (s s' : Seat) (d' : Desk) → Fits t w s → s'.place.table_id ≡ t → desk s' ≡ d' → s'.acting.actor ≡ s.acting.actor → s'.log.items ≡ s.log.items → Begins (desk s).seen d'.seen
      → ((c : ℕ) (which : Which) (n : ℕ) → is_noted (desk s).hints c which n ≡ true → is_noted d'.hints c which n ≡ true)
      → ((c n : ℕ) → is_counted (desk s).counts c n ≡ true → is_counted d'.counts c n ≡ true) → SeatStays w s s'
  stays_by t s s' d' f table is actor log begins hinted counted =
      stays_seen s s' (table ∙ sym f.table) actor log (subst (λ d. Begins (desk s).seen d.seen) (sym is) begins)
      (subst (λ d. (c : ℕ) (which : Which) (n : ℕ) → is_noted (desk s).hints c which n ≡ true → is_noted d.hints c which n ≡ true) (sym is) hinted)
      (subst (λ d. (c n : ℕ) → is_counted (desk s).counts c n ≡ true → is_counted d.counts c n ≡ true) (sym is) counted)

  -- no count was read and no lock found taken, where the desk is known
  pub quiet_by : (s s' : Seat) (d' : Desk) → desk s' ≡ d' → d'.counts ≡ (desk s).counts → d'.misses ≡ (desk s).misses → SeatQuiet w s s'
  quiet_by s s' d' is counts misses = record { stops = refl; notes = ap (λ (d : Desk). d.counts) is ∙ counts; misses = ap (λ (d : Desk). d.misses) is ∙ misses }

  -- a lock was found taken
  pub fits_missed : (t : TableId) (s s' : Seat) (h : List Entry) (i n : ℕ) → Fits t w s → Sees w (desk s) h → s'.place.table_id ≡ t → s'.place.me ≡ (Works (missing (seeing (desk s) h) i n), s.place.me.1)
      → s'.acting ≡ s.acting → s'.order.items ≡ s.order.items → s'.log.items ≡ s.log.items → Fits t w s'
  fits_missed t s s' h i n f seen table view acting order log =
      refits t [] [] (desk s) (missing (seeing (desk s) h) i n) s s' f seen refl refl f.settled (counted_still t [] (desk s) s h f seen) table
      (view ∙ ap (λ l. (Works (missing (seeing (desk s) h) i n), l)) (ap (λ m. m.1) f.view)) acting order log

  abbrev miss_at : ℕ → ℕ → Miss
  miss_at i n = record { home = i; word = n }

  pub missed : (t : TableId) (s s' : Seat) (h : List Entry) (i n : ℕ) (k : HomeId) (holder : ℕ) → i ≡ index_of (sizes w) k → Fits t w s → Sees w (desk s) h → s'.place.table_id ≡ t
      → s'.place.me ≡ (Works (missing (seeing (desk s) h) i n), s.place.me.1) → s'.acting ≡ s.acting → s'.log.items ≡ s.log.items → n ≡ holder + 1 → Missed w s s' k holder
  missed t s s' h i n k holder at f seen table view acting log is =
      let desk_is : desk s' ≡ missing (seeing (desk s) h) i n = ap (λ m. desk_of m.0) view in
      record {
        stays = stays_by t s s' (missing (seeing (desk s) h) i n) f table desk_is (ap (λ (a : Acting). a.actor) acting) log seen.since.begins (λ c which m e. e) (λ c m e. e);
        acting = acting;
        misses = ap (λ (d : Desk). d.misses) desk_is ∙ (ap (λ j. miss_at j n ∷ (desk s).misses) at ∙ ap (λ m. miss_at (index_of (sizes w) k) m ∷ (desk s).misses) is);
      }

  -- a home was taken and came to the hand
  reverse_push : (xs : List Held) (x : Held) → reverse (xs ++ x ∷ []) ≡ x ∷ reverse xs
  reverse_push xs x = grind (arith, common_steps)

  apart_number : (k j : HomeId) → IsNumber (sizes w) k → IsNumber (sizes w) j → (k ≡ j → ⊥) → index_of (sizes w) k ≢ index_of (sizes w) j
  apart_number k j a b n e = n (same_number (sizes w) k j a b e)

  pub fits_taken : (t : TableId) (s s' s0 : Seat) (h : List Entry) (k : HomeId) (x : Home) → Fits t w s → Sees w (desk s) h → Stands w (index_of (sizes w) k) h x → IsNumber (sizes w) k
      → s0.place.me ≡ (Works (taking (seeing (desk s) h) (index_of (sizes w) k)), (index_of (sizes w) k, Some x) ∷ s.place.me.1) → s0.place.table_id ≡ t → s0.acting ≡ s.acting → s0.order.items ≡ s.order.items → s0.log.items ≡ s.log.items
      → Lifted k (index_of (sizes w) k) s0 s' → Fits t w s'
  fits_taken t s s' s0 h k x f seen stands number view table acting order log up = fits_as t [] d' s' (record {
    table = up.table ∙ table;
    view = up.view ∙ (λ i. ((view i).0, (i0, None) ∷ rest (view i).1)) ∙ ap (λ l. (Works d', (i0, None) ∷ l)) (ap (λ m. m.1) f.view);
    cpu = f.cpu ∙ ap (λ a. a.cpu.0) (sym (up.actor ∙ ap (λ (a : Acting). a.actor) acting));
    inside = f.inside;
    order = ap (λ ks. i0 ∷ ks) f.order ∙ ap (indices w) (sym (ap reverse (up.order ∙ ap (λ o. o ++ record { 0 = k } ∷ []) order) ∙ reverse_push s.order.items (record { 0 = k })));
    each = subst (AreNumbers w) (sym (ap reverse (up.order ∙ ap (λ o. o ++ record { 0 = k } ∷ []) order) ∙ reverse_push s.order.items (record { 0 = k }))) (number, f.each);
    count = (let a = ap length up.order in let b = length-append s0.order.items (record { 0 = k } ∷ []) in let c = ap length order in let e = f.count in let g = up.count in let q = ap (λ (a : Acting). how_many_held a.hand.slots) acting in omega (arith, a, b, c, e, g, q));
    apart = (fresh_index, f.apart);
    numbers = λ j is. by_number j is;
    held = λ j is. by_held j is;
    run = seen.run;
    shown = new_shown;
    log = up.log ∙ (log ∙ (f.log ∙ seen.since.mine));
    settled = f.settled;
    counted = counted_still t [] (desk s) s h f seen;
  })
    where
      i0 : ℕ
      i0 = index_of (sizes w) k

      d' : Desk
      d' = taking (seeing (desk s) h) (index_of (sizes w) k)

      more : HoldsMore s.acting.hand.slots up.home s'.acting.hand.slots
      more = subst (λ (a : Acting). HoldsMore a.hand.slots up.home s'.acting.hand.slots) acting up.more

      is_k : home_id up.home ≡ k
      is_k = up.number

      same_home : up.home ≡ x
      same_home = let both : Some up.home ≡ Some x = ap first_slot (sym up.was ∙ ap (λ m. m.1) view) in cc

      fresh_index : holds (index_of (sizes w) k) (desk s).held ≡ false
      fresh_index = f.held k number ∙ ap is_some (ap (λ j. held j s.acting.hand.slots) (sym is_k) ∙ more.before)

      by_number : (j : HomeId) → IsHeld j s'.acting.hand.slots → IsNumber (sizes w) j
      by_number j is = ⊎_elim
          (λ (e : j ≡ k). subst (IsNumber (sizes w)) (sym e) number)
          (λ (n : j ≡ k → ⊥). f.numbers j (is.0, sym (more.others j (λ q. n (q ∙ is_k))) ∙ is.1))
          (same_or j k)

      by_held : (j : HomeId) → IsNumber (sizes w) j → holds (index_of (sizes w) j) (index_of (sizes w) k ∷ (desk s).held) ≡ is_some (held j s'.acting.hand.slots)
      by_held j is = ⊎_elim
          (λ (e : j ≡ k). ap (λ m. holds (index_of (sizes w) m) (index_of (sizes w) k ∷ (desk s).held)) e ∙ (holds_here (index_of (sizes w) k) (desk s).held ∙ sym (ap is_some (ap (λ m. held m s'.acting.hand.slots) (e ∙ sym is_k) ∙ more.here))))
          (λ (n : j ≡ k → ⊥). holds-cons_else (index_of (sizes w) j) (index_of (sizes w) k) (desk s).held (apart_number j k is number n) ∙ (f.held j is ∙ sym (ap is_some (more.others j (λ q. n (q ∙ is_k))))))
          (same_or j k)

      new_shown : IsShown s'.acting (length h) (now w h)
      new_shown =
          let old = shown_since t [] (desk s) s h f seen in
          let actor = up.actor ∙ ap (λ (a : Acting). a.actor) acting in
          record {
            homes = λ j y e. ⊎_elim
                (λ (q : j ≡ k). (let here = more.here in let same : y ≡ x = (let z : Some y ≡ Some up.home = sym e ∙ (ap (λ m. held m s'.acting.hand.slots) (q ∙ sym is_k) ∙ here) in (let zz : y ≡ up.home = cc in zz ∙ same_home)) in subst (λ z. IsHome (length h) (now w h) (look_of (now w h)) z) (sym same) stands.shown))
                (λ (n : j ≡ k → ⊥). old.homes j y (sym (more.others j (λ q. n (q ∙ is_k))) ∙ e))
                (same_or j k);
            apart = more.apart old.apart;
            inside = subst (λ a. a.cpu.0 < length (now w h).cpus) (sym actor) old.inside;
            count = subst (λ a. a.count ≡ (cpu_of (now w h) a.cpu.0).count) (sym actor) old.count;
            duty = subst (λ a. a.duty ≡ (cpu_of (now w h) a.cpu.0).duty) (sym actor) old.duty;
            locks = old.locks;
            chans = old.chans;
          }

  pub fits_taken_at : (t : TableId) (s s' s0 : Seat) (h : List Entry) (k : HomeId) (x : Home) (i : ℕ) → i ≡ index_of (sizes w) k → Fits t w s → Sees w (desk s) h → Stands w i h x → IsNumber (sizes w) k
      → s0.place.me ≡ (Works (taking (seeing (desk s) h) i), (i, Some x) ∷ s.place.me.1) → s0.place.table_id ≡ t → s0.acting ≡ s.acting → s0.order.items ≡ s.order.items → s0.log.items ≡ s.log.items → Lifted k i s0 s' → Fits t w s'
  fits_taken_at t s s' s0 h k x i e f seen stands number view table acting order log up =
      fits_taken t s s' s0 h k x f seen (subst (λ j. Stands w j h x) e stands) number (view ∙ ap (λ j. (Works (taking (seeing (desk s) h) j), (j, Some x) ∷ s.place.me.1)) e) table acting order log (subst (λ j. Lifted k j s0 s') e up)

  pub gains_taken : (t : TableId) (s s' s0 : Seat) (h : List Entry) (k : HomeId) (x : Home) (i : ℕ) → Fits t w s → Sees w (desk s) h → s0.place.me ≡ (Works (taking (seeing (desk s) h) i), (i, Some x) ∷ s.place.me.1) → s0.place.table_id ≡ t
      → s0.acting ≡ s.acting → s0.log.items ≡ s.log.items → Lifted k i s0 s' → (y : Home) × (home_id y ≡ k) × Gains (seat_meaning w s) (seat_meaning w s') y
  gains_taken t s s' s0 h k x i f seen view table acting log up =
      let d' = taking (seeing (desk s) h) i in
      let is : desk s' ≡ d' = ap (λ m. desk_of m.0) up.view ∙ ap (λ m. desk_of m.0) view in (
        up.home,
        up.number,
        record {
          stays = stays_by t s s' d' f (up.table ∙ table) is (up.actor ∙ ap (λ (a : Acting). a.actor) acting) (up.log ∙ log) seen.since.begins (λ c which m e. e) (λ c m e. e);
          quiet = quiet_by s s' d' is refl refl;
          more = subst (λ (a : Acting). HoldsMore a.hand.slots up.home s'.acting.hand.slots) acting up.more;
          count = subst (λ (a : Acting). how_many_held s'.acting.hand.slots ≡ how_many_held a.hand.slots + 1) acting up.count;
        },
      )

  -- the home that was taken last
  last_of : (t : TableId) (s : Seat) (k : HomeId) (front : List Held) → Fits t w s → s.order.items ≡ front ++ record { 0 = k } ∷ [] → IsNumber (sizes w) k × ((desk s).held ≡ index_of (sizes w) k ∷ indices w (reverse front))
  last_of t s k front f e =
      let back = ap reverse e ∙ reverse_push front (record { 0 = k }) in
      ((subst (AreNumbers w) back f.each).0, f.order ∙ ap (indices w) back)

  pub has_last : (t : TableId) (s : Seat) → Fits t w s → HasLast s
  has_last t s f k front e =
      let last = last_of t s k front f e in
      sym (f.held k last.0) ∙ (ap (holds (index_of (sizes w) k)) last.1 ∙ holds_here (index_of (sizes w) k) (indices w (reverse front)))

  without_first : (k : ℕ) (ks : List ℕ) → without k (k ∷ ks) ≡ ks
  unfolding without
  without_first k ks = grind (arith, nat_tests)

  pub without_only : (k : ℕ) → without k (k ∷ []) ≡ []
  without_only k = without_first k []

  module _ (t : TableId) (s s1 : Seat) (x : Home) (f : Fits t w s) (low : Lowered s s1 x) where
    abbrev k0 : HomeId
    k0 = home_id x

    abbrev rest_held : List ℕ
    rest_held = indices w (reverse s1.order.items)

    last : IsNumber (sizes w) (home_id x) × ((desk s).held ≡ index_of (sizes w) (home_id x) ∷ indices w (reverse s1.order.items))
    last = last_of t s (home_id x) s1.order.items f low.order

    pub lowered_number : IsNumber (sizes w) (home_id x)
    lowered_number = last.0

    pub lowered_view : s1.place.me ≡ (Works (desk s), (index_of (sizes w) (home_id x), None) ∷ lent (indices w (reverse s1.order.items)))
    lowered_view = ap (λ p. p.me) low.place ∙ (f.view ∙ ap (λ ks. (Works (desk s), lent ks)) last.1)

    pub lowered_held : holds (index_of (sizes w) (home_id x)) (desk s).held ≡ true
    lowered_held = ap (holds (index_of (sizes w) k0)) last.1 ∙ holds_here (index_of (sizes w) k0) rest_held

    pub lowered_stands : Stands w (index_of (sizes w) (home_id x)) (desk s).seen x
    lowered_stands = stands_in_hand t [] (desk s) s k0 x f low.more.here

    held_rest : without (index_of (sizes w) (home_id x)) (desk s).held ≡ indices w (reverse s1.order.items)
    held_rest = ap (without (index_of (sizes w) k0)) last.1 ∙ without_first (index_of (sizes w) k0) rest_held

    pub fits_given : (s' : Seat) → s'.place.table_id ≡ t → s'.place.me ≡ (Works (giving (desk s) (index_of (sizes w) (home_id x))), lent (indices w (reverse s1.order.items)))
        → s'.acting ≡ s1.acting → s'.order ≡ s1.order → s'.log ≡ s1.log → Fits t w s'
    fits_given s' table view acting order log = fits_as t [] d' s' (record {
      table = table;
      view = view ∙ ap (λ ks. (Works d', lent ks)) (sym held_rest);
      cpu = f.cpu ∙ ap (λ (a : Actor). a.cpu.0) (sym actor);
      inside = f.inside;
      order = held_rest ∙ ap (λ (o : ArrayVec Held). indices w (reverse o.items)) (sym order);
      each = subst (λ (o : ArrayVec Held). AreNumbers w (reverse o.items)) (sym order) (subst (AreNumbers w) (ap reverse low.order ∙ reverse_push s1.order.items (record { 0 = k0 })) f.each).1;
      count = (let a = ap length low.order in let b = length-append s1.order.items (record { 0 = k0 } ∷ []) in let c = f.count in let e = low.count in let o = ap (λ (o : ArrayVec Held). length o.items) order in let q = ap (λ (a : Acting). how_many_held a.hand.slots) acting in omega (arith, a, b, c, e, o, q));
      apart = subst Apart (sym held_rest) (subst Apart last.1 f.apart).1;
      numbers = λ j is. numbers j (subst (λ (a : Acting). IsHeld j a.hand.slots) acting is);
      held = λ j is. ap (holds (index_of (sizes w) j)) held_rest ∙ (still j is ∙ ap (λ (a : Acting). is_some (held j a.hand.slots)) (sym acting));
      run = f.run;
      shown = subst (λ a. IsShown a (length (desk s).seen) (now w (desk s).seen)) (sym acting) shown;
      log = ap (λ l. l.items) (log ∙ low.log) ∙ f.log;
      settled = f.settled;
      counted = f.counted;
    })
      where
        d' : Desk
        d' = giving (desk s) (index_of (sizes w) (home_id x))

        actor : s'.acting.actor ≡ s.acting.actor
        actor = ap (λ (a : Acting). a.actor) acting ∙ low.actor

        none_some : (o : Option Home) (y : Home) → o ≡ None → o ≡ Some y → ⊥
        none_some o y a b = let z : None ≡ Some y = sym a ∙ b in absurd cc

        numbers : (j : HomeId) → IsHeld j s1.acting.hand.slots → IsNumber (sizes w) j
        numbers j is = ⊎_elim
            (λ (e : j ≡ home_id x). absurd (none_some (held j s1.acting.hand.slots) is.0 (ap (λ i. held i s1.acting.hand.slots) e ∙ low.more.before) is.1))
            (λ (n : j ≡ home_id x → ⊥). f.numbers j (is.0, low.more.others j n ∙ is.1))
            (same_or j (home_id x))

        still : (j : HomeId) → IsNumber (sizes w) j → holds (index_of (sizes w) j) (indices w (reverse s1.order.items)) ≡ is_some (held j s1.acting.hand.slots)
        still j is = ⊎_elim
            (λ (e : j ≡ home_id x). ap (λ i. holds (index_of (sizes w) i) (indices w (reverse s1.order.items))) e ∙ ((subst Apart last.1 f.apart).0 ∙ sym (ap is_some (ap (λ i. held i s1.acting.hand.slots) e ∙ low.more.before))))
            (λ (n : j ≡ home_id x → ⊥). sym (holds-cons_else (index_of (sizes w) j) (index_of (sizes w) (home_id x)) (indices w (reverse s1.order.items)) (apart_number j (home_id x) is last.0 n))
            ∙ (ap (holds (index_of (sizes w) j)) (sym last.1) ∙ (f.held j is ∙ ap is_some (low.more.others j n))))
            (same_or j (home_id x))

        shown : IsShown s1.acting (length (desk s).seen) (now w (desk s).seen)
        shown = record {
          homes = λ j y e. ⊎_elim
              (λ (q : j ≡ home_id x). absurd (none_some (held j s1.acting.hand.slots) y (ap (λ i. held i s1.acting.hand.slots) q ∙ low.more.before) e))
              (λ (n : j ≡ home_id x → ⊥). f.shown.homes j y (low.more.others j n ∙ e))
              (same_or j (home_id x));
          apart = low.apart;
          inside = subst (λ a. a.cpu.0 < length (now w (desk s).seen).cpus) (sym low.actor) f.shown.inside;
          count = subst (λ a. a.count ≡ (cpu_of (now w (desk s).seen) a.cpu.0).count) (sym low.actor) f.shown.count;
          duty = subst (λ a. a.duty ≡ (cpu_of (now w (desk s).seen) a.cpu.0).duty) (sym low.actor) f.shown.duty;
          locks = f.shown.locks;
          chans = f.shown.chans;
        }

    pub stays_given : (s' : Seat) → s'.place.table_id ≡ t → s'.place.me ≡ (Works (giving (desk s) (index_of (sizes w) (home_id x))), lent (indices w (reverse s1.order.items)))
        → s'.acting ≡ s1.acting → s'.log ≡ s1.log → SeatStays w s s'
    stays_given s' table view acting log =
        stays_by t s s' (giving (desk s) (index_of (sizes w) (home_id x))) f table (ap (λ m. desk_of m.0) view) (ap (λ (a : Acting). a.actor) acting ∙ low.actor) (ap (λ l. l.items) (log ∙ low.log)) (begins_same (desk s).seen)
        (λ c which n e. e) (λ c n e. e)

    pub quiet_given : (s' : Seat) → s'.place.me ≡ (Works (giving (desk s) (index_of (sizes w) (home_id x))), lent (indices w (reverse s1.order.items))) → SeatQuiet w s s'
    quiet_given s' view = quiet_by s s' (giving (desk s) (index_of (sizes w) (home_id x))) (ap (λ m. desk_of m.0) view) refl refl

  -- a count was read
  counted_cons : (x : Count) (xs : List Count) (c n : ℕ) → is_counted (x ∷ xs) c n ≡ (((x.cpu == c) && (x.number == n)) || is_counted xs c n)
  unfolding is_counted
  counted_cons x xs c n = refl

  counted_here : (c n : ℕ) (xs : List Count) → is_counted (record { cpu = c; number = n } ∷ xs) c n ≡ true
  counted_here c n xs = counted_cons (record { cpu = c; number = n }) xs c n ∙ (let a = eq-eqb c c refl in let b = eq-eqb n n refl in grind (arith))

  counted_there : (x : Count) (xs : List Count) (c n : ℕ) → is_counted xs c n ≡ true → is_counted (x ∷ xs) c n ≡ true
  counted_there x xs c n e = counted_cons x xs c n ∙ (let z : (((x.cpu == c) && (x.number == n)) || is_counted xs c n) ≡ true = grind (arith) in z)

  or_cases : (a b : Bool) → (a || b) ≡ true → (a ≡ true) ⊎ (b ≡ true)
  or_cases true b h = inl refl
  or_cases false b h = inr h

  and_cases : (a b : Bool) → (a && b) ≡ true → (a ≡ true) × (b ≡ true)
  and_cases true b h = (refl, h)
  and_cases false b h = absurd (false≢true h)

  all_counted : (x : Count) (xs : List Count) (h : List Entry) → x.number ≤ (cpu_of (now w h) x.cpu).count → ((c n : ℕ) → is_counted xs c n ≡ true → n ≤ (cpu_of (now w h) c).count)
      → (c n : ℕ) → is_counted (x ∷ xs) c n ≡ true → n ≤ (cpu_of (now w h) c).count
  all_counted x xs h first others c n is = ⊎_elim
      (λ (e : ((x.cpu == c) && (x.number == n)) ≡ true). (let both = and_cases (x.cpu == c) (x.number == n) e in subst (λ m. m ≤ (cpu_of (now w h) c).count) (eqb-true x.number n both.1) (subst (λ d. x.number ≤ (cpu_of (now w h) d).count) (eqb-true x.cpu c both.0) first)))
      (λ e. others c n e)
      (or_cases ((x.cpu == c) && (x.number == n)) (is_counted xs c n) (sym (counted_cons x xs c n) ∙ is))

  module _ (t : TableId) (s s' : Seat) (h : List Entry) (c n : ℕ) (f : Fits t w s) (seen : Sees w (desk s) h) (table : s'.place.table_id ≡ t)
      (view : s'.place.me ≡ (Works (noting (seeing (desk s) h) (record { cpu = c; number = n })), s.place.me.1)) (acting : s'.acting ≡ s.acting) (log : s'.log.items ≡ s.log.items) where
    pub fits_counted : n ≤ (cpu_of (now w h) c).count → s'.order.items ≡ s.order.items → Fits t w s'
    fits_counted least order =
        let d' = noting (seeing (desk s) h) (record { cpu = c; number = n }) in
        refits t [] [] (desk s) d' s s' f seen refl refl f.settled (all_counted (record { cpu = c; number = n }) (desk s).counts h least (counted_still t [] (desk s) s h f seen)) table
        (view ∙ ap (λ l. (Works d', l)) (ap (λ m. m.1) f.view)) acting order log

    pub seat_counts : SeatCounts w s s' c n
    seat_counts =
        let d' = noting (seeing (desk s) h) (record { cpu = c; number = n }) in
        let is : desk s' ≡ d' = ap (λ m. desk_of m.0) view in
        record {
          stays = stays_by t s s' d' f table is (ap (λ (a : Acting). a.actor) acting) log seen.since.begins (λ k which m e. e) (λ k m e. counted_there (record { cpu = c; number = n }) (desk s).counts k m e);
          acting = acting;
          noted = ap (λ (d : Desk). d.counts) is;
          misses = ap (λ (d : Desk). d.misses) is;
          counted = ap (λ (d : Desk). is_counted d.counts c n) is ∙ counted_here c n (desk s).counts;
        }

  -- a hint was read
  noted_cons : (x : Note) (xs : List Note) (c : ℕ) (which : Which) (n : ℕ) → is_noted (x ∷ xs) c which n ≡ (is_note c which n x || is_noted xs c which n)
  unfolding is_noted
  noted_cons x xs c which n = refl

  noted_here : (c : ℕ) (which : Which) (n : ℕ) (xs : List Note) → is_noted (record { cpu = c; which = which; number = n } ∷ xs) c which n ≡ true
  noted_here c which n xs =
      noted_cons (record { cpu = c; which = which; number = n }) xs c which n
      ∙ (let a = eq-eqb c c refl in let b = eq-eqb n n refl in let k = eq-eqb (which_word which) (which_word which) refl in grind (arith))

  noted_there : (x : Note) (xs : List Note) (c : ℕ) (which : Which) (n : ℕ) → is_noted xs c which n ≡ true → is_noted (x ∷ xs) c which n ≡ true
  noted_there x xs c which n e = noted_cons x xs c which n ∙ (ap (λ b. is_note c which n x || b) e ∙ or_always (is_note c which n x))

  pub sees_same : (t : TableId) (ts : List ℕ) (d : Desk) (s : Seat) → FitsAs t w ts d s → Sees w d d.seen
  sees_same t ts d s f = record { run = f.run; since = since_same w d.cpu d.held d.seen }

  module _ (t : TableId) (s s' : Seat) (c : ℕ) (which : Which) (n : ℕ) (f : Fits t w s) (table : s'.place.table_id ≡ t)
      (view : s'.place.me ≡ (Works (hinted (desk s) (record { cpu = c; which = which; number = n })), s.place.me.1)) (acting : s'.acting ≡ s.acting) (log : s'.log.items ≡ s.log.items) where
    pub fits_hinted : s'.order.items ≡ s.order.items → Fits t w s'
    fits_hinted order =
        let d' = hinted (desk s) (record { cpu = c; which = which; number = n }) in
        refits t [] [] (desk s) d' s s' f (sees_same t [] (desk s) s f) refl refl f.settled f.counted table (view ∙ ap (λ l. (Works d', l)) (ap (λ m. m.1) f.view)) acting order log

    pub seat_hints : SeatHints w s s' c which n
    seat_hints =
        let d' = hinted (desk s) (record { cpu = c; which = which; number = n }) in
        let is : desk s' ≡ d' = ap (λ m. desk_of m.0) view in
        record {
          stays = stays_by t s s' d' f table is (ap (λ (a : Acting). a.actor) acting) log (begins_same (desk s).seen) (λ k what m e. noted_there (record { cpu = c; which = which; number = n }) (desk s).hints k what m e) (λ k m e. e);
          quiet = quiet_by s s' d' is refl refl;
          acting = acting;
          noted = ap (λ (d : Desk). d.hints) is;
          hinted = ap (λ (d : Desk). is_noted d.hints c which n) is ∙ noted_here c which n (desk s).hints;
        }
