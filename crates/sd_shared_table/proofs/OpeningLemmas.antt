-- A table at its opening, and the seats that are cut from the first.
use Rattle.std.proofs.Common.{◌≡◌, ◌⊎◌, ℕ, zero, suc, ◌+◌, ◌-◌, ◌*◌, ◌^◌, ◌<◌, ◌≤◌, true, List, [], ◌∷◌, ◌++◌, length, get_or, is_some, map, replicate, reverse, Option, Some, None, refl, sym, ap, ◌∙◌, subst, inl, inr, ⊎_elim, arith, length-append}
use Rattle.std.specs.Prelude.{slice_get, slice_index}
use Rattle.std.specs.List.{range_with_len}
use Rattle.std.proofs.lemmas.Bool.{cases_lt, false≢true}
use Rattle.std.proofs.lemmas.Bool.Decides.{nat_tests}
use Rattle.std.proofs.lemmas.List.{length-replicate, get_or-append_right, get_or-replicate, get_or_append_left, get_or_past}
use Rattle.std.proofs.lemmas.List.Elements.{All-get_or}
use Rattle.std.proofs.lemmas.Option.{slice_get-get_or}
use Rattle.std.proofs.lemmas.List.FromFn.{get_or-map-range_with_len, length-map-range_with_len}
use Rattle.sd_basics.proofs.Lists.{get_last}
use mathlib.Core.Option as M
use lib.ListN.{get_elem?}
use Rattle.atomic_table.specs.Seated.{TableId}
use Rattle.atomic_table.specs.Table.{opening as table_opening}
use Rattle.sd_types.specs.declared.numbers.HomeId.{HomeId}
use Rattle.sd_types.specs.declared.numbers.HomeId.TheVariants as id
use Rattle.sd_types.specs.declared.works.Work.{Work}
use Rattle.sd_state.specs.declared.states.State.{State}
use Rattle.sd_state.specs.Opening.{opening}
use Rattle.sd_state.specs.States.{cpu_of}
use Rattle.sd_machine.specs.Runs.{final}
use Rattle.sd_machine.specs.Shapes.{FitsFully}
use Rattle.sd_machine.proofs.RunLemmas.{IsRun-nil}
use Rattle.sd_invariants.proofs.Whole.{fit_reached}
use Rattle.sd_homes.specs.declared.home.Home.{Home}
use Rattle.sd_homes.specs.Families.{home_id}
use Rattle.sd_hand.specs.Hands.{AreApart, HoldsMore, IsHeld, held, how_many_held}
use Rattle.sd_hand.proofs.SlotLemmas.{held_id}
use Rattle.sd_hand.specs.Shown.{IsHome}
use Rattle.sd_homes.specs.Numbers.{IsHomeOf}
use Rattle.sd_homes.specs.Standing.{look_of}
use Rattle.sd_hand.specs.declared.acting.Actor.{Actor}
use Rattle.sd_world.specs.Told.{AreActorsOf, IsActorOf}
use Rattle.sd_world.specs.Homes.{IsNumber, IsNumberAt, Sizes, index_of}
use Rattle.sd_world.specs.Plain.{Stands as StandsAsRun, no_actor, told}
use Rattle.sd_world.proofs.PlainLemmas.{reached as run_reached}
use Rattle.sd_world.specs.declared.plain.PlainWorld.{PlainWorld}
use Rattle.sd_shared_rule.specs.declared.views.View.TheVariants.{Maker, Works}
use Rattle.sd_shared_rule.specs.Places.{Stands, home_count, now, place_home, sizes}
use Rattle.sd_shared_rule.specs.Plays.{Slot, new_desk}
use Rattle.sd_shared_rule.specs.Rule.{Kept}
use Rattle.sd_shared_rule.specs.Words.{hint_at, lock_of, tick_word}
use Rattle.sd_shared_rule.proofs.Board.{hint_is, lock_is, tick_is, word_is}
use Rattle.sd_shared_rule.proofs.Bridge.{reached}
use Rattle.sd_shared_rule.proofs.Lists.{by-nil, holds-nil}
use Rattle.sd_shared_rule.proofs.Making.{opens}
use Rattle.sd_shared_table.specs.declared.seat.Seat.{Seat}
use Rattle.sd_shared_table.specs.Seats.{AreNumbers, indices, is_counted}
use Rattle.sd_shared_table.specs.Whole.{AreFirstWords, AreHints, AreLaid, AreNew, AreSeats, HasLaid, IsSeatOf}
use Rattle.sd_shared_table.proofs.Fitting.{fits_as}
use Rattle.sd_shared_table.proofs.LogLemmas.{at_early}

-- Words.

zero_at : (n i : ℕ) → get_or {A = ℕ} (replicate {A = ℕ} n 0) i 0 ≡ 0
zero_at n i = ⊎_elim (λ below. get_or-replicate n i 0 0 below) (λ past. get_or_past (replicate {A = ℕ} n 0) i 0 (let long = length-replicate {A = ℕ} n 0 in omega (arith, long, past))) (cases_lt i n)

module _ (w : Work) (ws : List ℕ) where
  lock_past : (k : ℕ) → home_count w ≤ k → lock_of w ws k ≡ 0
  unfolding lock_of
  lock_past k past = grind (arith, nat_tests)

  hint_past : (i : ℕ) → 2 * w.cpus ≤ i → hint_at w ws i ≡ 0
  unfolding hint_at
  hint_past i past = grind (arith, nat_tests)

module _ (w : Work) (s : State) (hints : List ℕ) (are : AreHints w hints) where
  abbrev locks : List ℕ
  locks = replicate (home_count w + 1) 0

  abbrev places : List ℕ
  places = map (place_home w s) (range_with_len 0 (length w.threads))

  abbrev all : List ℕ
  all = ((replicate (home_count w + 1) 0 ++ map (place_home w s) (range_with_len 0 (length w.threads))) ++ hints) ++ replicate w.cpus 0

  long1 : length locks ≡ home_count w + 1
  long1 = length-replicate {A = ℕ} (home_count w + 1) 0

  long2 : length (locks ++ places) ≡ home_count w + 1 + length w.threads
  long2 = length-append locks places ∙ (λ i. long1 i + length-map-range_with_len (place_home w s) 0 (length w.threads) i)

  long3 : length ((locks ++ places) ++ hints) ≡ home_count w + 1 + length w.threads + 2 * w.cpus
  long3 = length-append (locks ++ places) hints ∙ (λ i. long2 i + are.many i)

  long4 : length all ≡ home_count w + 1 + length w.threads + 2 * w.cpus + w.cpus
  long4 = length-append ((locks ++ places) ++ hints) (replicate w.cpus 0) ∙ (λ i. long3 i + length-replicate {A = ℕ} w.cpus 0 i)

  in3 : (i : ℕ) → i < home_count w + 1 + length w.threads + 2 * w.cpus → slice_index all i ≡ get_or ((locks ++ places) ++ hints) i 0
  in3 i below = get_or_append_left ((locks ++ places) ++ hints) (replicate w.cpus 0) 0 i (omega (arith, long3, below))

  in2 : (i : ℕ) → i < home_count w + 1 + length w.threads → slice_index all i ≡ get_or (locks ++ places) i 0
  in2 i below = in3 i (omega (arith, below)) ∙ get_or_append_left (locks ++ places) hints 0 i (omega (arith, long2, below))

  in1 : (i : ℕ) → i < home_count w + 1 → slice_index all i ≡ 0
  in1 i below = in2 i (omega (arith, below)) ∙ (get_or_append_left locks places 0 i (omega (arith, long1, below)) ∙ zero_at (home_count w + 1) i)

  place_there : (t : ℕ) → t < length w.threads → slice_index all (home_count w + 1 + t) ≡ place_home w s t
  place_there t below =
      in2 (home_count w + 1 + t) (omega (arith, below))
      ∙ (get_or-append_right locks places (home_count w + 1) (home_count w + 1 + t) 0 long1 (omega arith)
      ∙ get_or-map-range_with_len (place_home w s) 0 (length w.threads) (home_count w + 1 + t - (home_count w + 1)) t 0 (omega (arith, below)) (omega arith))

  hint_there : (i : ℕ) → i < 2 * w.cpus → slice_index all (home_count w + 1 + length w.threads + i) ≡ get_or hints i 0
  hint_there i below =
      in3 (home_count w + 1 + length w.threads + i) (omega (arith, below))
      ∙ (get_or-append_right (locks ++ places) hints (home_count w + 1 + length w.threads) (home_count w + 1 + length w.threads + i) 0 long2 (omega arith)
      ∙ ap (λ j. get_or hints j 0) (let e : home_count w + 1 + length w.threads + i - (home_count w + 1 + length w.threads) ≡ i = omega arith in e))

  tick_there : (c : ℕ) → slice_index all (tick_word w c) ≡ 0
  tick_there c =
      get_or-append_right ((locks ++ places) ++ hints) (replicate w.cpus 0) (home_count w + 1 + length w.threads + 2 * w.cpus) (tick_word w c) 0 long3 (omega arith)
      ∙ zero_at w.cpus (tick_word w c - (home_count w + 1 + length w.threads + 2 * w.cpus))

  words_laid : AreFirstWords w s all
  words_laid = record {
    many = omega (arith, long4);
    locks = λ k. ⊎_elim (λ below. lock_is w all k below ∙ in1 k (omega (arith, below))) (λ past. lock_past w all k past) (cases_lt k (home_count w));
    stamp = in1 (home_count w) (omega arith);
    threads = λ t below. word_is w all t below ∙ place_there t below;
    ticks = λ c. tick_is w all c ∙ tick_there c;
    hints = λ i. ⊎_elim
        (λ below. subst (λ n. n < 2 ^ 8) (sym (hint_is w all i below ∙ hint_there i below)) (All-get_or (λ n. n < 2 ^ 8) hints i 0 (let m = are.many in omega (arith, m, below)) are.small))
        (λ past. subst (λ n. n < 2 ^ 8) (sym (hint_past w all i past)) (omega arith))
        (cases_lt i (2 * w.cpus));
  }

  pub first_words : (ws a b c : List ℕ) → a ≡ replicate (home_count w + 1) 0 → b ≡ a ++ map (place_home w s) (range_with_len 0 (length w.threads)) → c ≡ b ++ hints → ws ≡ c ++ replicate w.cpus 0 → AreFirstWords w s ws
  first_words ws a b c ea eb ec ed =
      subst (AreFirstWords w s) (sym (ed ∙ ap (λ l. l ++ replicate w.cpus 0) (ec ∙ ap (λ l. l ++ hints) (eb ∙ ap (λ l. l ++ map (place_home w s) (range_with_len 0 (length w.threads))) ea)))) words_laid

-- Homes in their slots.

laid_elem : (xs : List Slot) (i : ℕ) (x : Home) → slice_get xs i ≡ Some (Some x) → get_elem? (map (λ (y : Slot). M.some y) xs) i ≡ M.some (M.some (Some x))
laid_elem [] i x e = absurd cc
laid_elem (y ∷ ys) zero x e = let is : y ≡ Some x = cc in ap (λ z. M.some (M.some z)) is
laid_elem (y ∷ ys) (suc i) x e = laid_elem ys i x e

same_long : (xs : List Slot) → length (map (λ (y : Slot). M.some y) xs) ≡ length xs
same_long [] = refl
same_long (x ∷ xs) = ap suc (same_long xs)

-- the homes that were in the hand so far
pub record Laying (z : Sizes) (first now : List (Option Home)) (i : ℕ) (slots : List Slot) : Type 0 where
  pub laid : AreLaid z first i slots
  pub left : (k : HomeId) → IsNumber z k → i ≤ index_of z k → held k now ≡ held k first

pub lays_first : (z : Sizes) (hs : List (Option Home)) (slots : List Slot) → slots ≡ [] → Laying z hs hs 0 slots
lays_first z hs slots e = record { laid = record { many = ap length e; each = λ i below. absurd (omega (arith, below)) }; left = λ k is far. refl }

pub lays_next : (z : Sizes) (first now new : List (Option Home)) (i : ℕ) (slots next : List Slot) (k : HomeId) (x : Home) → Laying z first now i slots → IsNumberAt z i k → home_id x ≡ k → HoldsMore new x now → next ≡ slots ++ Some x ∷ []
    → Laying z first new (i + 1) next
lays_next z first now new i slots next k x l at is more e = record {
  laid = subst (AreLaid z first (i + 1)) (sym e) (record {
    many = length-append slots (Some x ∷ []) ∙ ap (λ m. m + 1) l.laid.many;
    each = λ j below. by j below (cases_lt j i);
  });
  left = λ j number far. let other : j ≡ home_id x → ⊥ = (λ q. let same = ap (index_of z) (q ∙ is) ∙ at.0 in omega (arith, same, far)) in sym (more.others j other) ∙ l.left j number (omega (arith, far));
}
  where
    by : (j : ℕ) → j < i + 1 → (j < i) ⊎ (i ≤ j) → HasLaid z first (slots ++ Some x ∷ []) j
    by j below (inl before) = let h = l.laid.each j before in record { number = h.number; at = h.at; home = h.home; was = h.was; there = at_early slots (Some x) (Some h.home) j h.there }
    by j below (inr behind) =
        let same : j ≡ i = omega (arith, below, behind) in
        let many = l.laid.many in
        record {
          number = k;
          at = (at.0 ∙ sym same, at.1);
          home = x;
          was = sym (l.left k at.1 (let q = at.0 in omega (arith, q))) ∙ (ap (λ n. held n now) (sym is) ∙ more.here);
          there = ap (slice_get (slots ++ Some x ∷ [])) (same ∙ sym many) ∙ get_last slots (Some x);
        }

pub left_there : (z : Sizes) (first now : List (Option Home)) (i : ℕ) (slots : List Slot) (k : HomeId) → Laying z first now i slots → IsNumberAt z i k → ((j : HomeId) → IsNumber z j → IsHeld j first) → held k now ≡ None → ⊥
left_there z first now i slots k l at all none =
    let there = all k at.1 in
    let both : None ≡ Some there.0 = sym none ∙ (l.left k at.1 (let q = at.0 in omega (arith, q)) ∙ there.1) in
    absurd cc

-- The rule holds of the table.

module _ (w : Work) (x : PlainWorld) (st : StandsAsRun w x) (begun : x.entries.items ≡ []) where
  pub begins_at : told w x ≡ now w []
  begins_at = ap (final w (opening w)) begun

  stands_laid : (slots : List Slot) → AreLaid (sizes w) x.acting.hand.slots (home_count w) slots → (k : ℕ) → k < home_count w → (y : Home) × (get_elem? (map (λ (z : Slot). M.some z) slots) k ≡ M.some (M.some (Some y))) × Stands w k [] y
  stands_laid slots laid k below =
      let h = laid.each k below in
      let is : h.number ≡ home_id h.home = held_id h.number h.home x.acting.hand.slots h.was in (
        h.home,
        laid_elem slots k h.home h.there,
        record {
          placed = record { number = subst (IsNumber (sizes w)) is h.at.1; index = ap (index_of (sizes w)) (sym is) ∙ h.at.0 };
          shown = subst (λ s. IsHome 0 s (look_of s) h.home) begins_at (subst (λ es. IsHome (length es) (told w x) (look_of (told w x)) h.home) begun (st.all.shown h.number h.home h.was));
        },
      )

  pub opens_with : (ws : List ℕ) (slots : List Slot) → AreFirstWords w (told w x) ws → AreLaid (sizes w) x.acting.hand.slots (home_count w) slots → Kept w (table_opening ws slots (Maker 0))
  opens_with ws slots words laid =
      opens w ws slots words.many laid.many words.locks words.stamp (λ t below. words.threads t below ∙ ap (λ s. place_home w s t) begins_at) words.ticks words.hints (stands_laid slots laid)
      (same_long slots ∙ laid.many)

  -- what is in the hand
  pub all_held : (k : HomeId) → IsNumber (sizes w) k → IsHeld k x.acting.hand.slots
  all_held k number = st.all.all k (there k number)
    where
      few : FitsFully w (told w x)
      few = (fit_reached w (length x.entries.items) (told w x) (run_reached w x st)).fits

      there : (j : HomeId) → IsNumber (sizes w) j → IsHomeOf (told w x) j
      there (id.Cpu c) is = subst (λ m. c.0 < m) (sym few.cpus) is
      there (id.RealTime p) is = subst (λ m. p.0 < m) (sym few.sets) is
      there (id.Chain i) is = is
      there (id.Sleepers i) is = is

  pub actors_begun : AreActorsOf (now w []) x.actors.items
  actors_begun = subst (λ s. AreActorsOf s x.actors.items) begins_at st.actors

-- The processors.

module _ (w : Work) (actors : List Actor) (are : AreActorsOf (now w []) actors) where
  pub all_actors : length actors ≡ w.cpus
  all_actors = are.many ∙ (fit_reached w 0 (now w []) (reached w [] (IsRun-nil w))).fits.cpus

  actor_at : (c : ℕ) → c < length actors → IsActorOf (now w []) c (get_or actors c no_actor)
  actor_at c inside = are.each c (get_or actors c no_actor) (slice_get-get_or actors c no_actor inside)

  pub actor_cpu : (c : ℕ) → c < length actors → (get_or actors c no_actor).cpu.0 ≡ c
  actor_cpu c inside = (actor_at c inside).cpu

  pub actor_inside : (c : ℕ) → c < length actors → (get_or actors c no_actor).cpu.0 < w.cpus
  actor_inside c inside = let e = actor_cpu c inside in omega (arith, e, inside, all_actors)

  pub actor_is : (c : ℕ) → c < length actors → IsActorOf (now w []) (get_or actors c no_actor).cpu.0 (get_or actors c no_actor)
  actor_is c inside = subst (λ i. IsActorOf (now w []) i (get_or actors c no_actor)) (sym (actor_cpu c inside)) (actor_at c inside)

-- Seats.

none_counted : (c n : ℕ) → is_counted [] c n ≡ true → ⊥
unfolding is_counted
none_counted c n e = absurd (false≢true e)

module _ (w : Work) (t : TableId) where
  pub seat_new : (s : Seat) (c : ℕ) → c < w.cpus → s.place.table_id ≡ t → s.place.me ≡ (Works (new_desk c), []) → s.acting.hand.slots ≡ None ∷ (None ∷ (None ∷ (None ∷ []))) → s.acting.actor.cpu.0 ≡ c
      → IsActorOf (now w []) c s.acting.actor → s.order.items ≡ [] → s.log.items ≡ [] → IsSeatOf t w c s
  seat_new s c inside table view slots cpu actor order log = record {
    fits = fits_as w t [] (new_desk c) s (record {
      table = table;
      view = view;
      cpu = sym cpu;
      inside = inside;
      order = sym (ap (λ l. indices w (reverse l)) order);
      each = subst (λ l. AreNumbers w (reverse l)) (sym order) tt;
      count = ap length order ∙ sym (ap how_many_held slots);
      apart = tt;
      numbers = λ k is. absurd (none_there k is.0 is.1);
      held = λ k is. holds-nil (index_of (sizes w) k) ∙ sym (ap (λ hs. is_some (held k hs)) slots);
      run = IsRun-nil w;
      shown = record {
        homes = λ k h e. absurd (none_there k h e);
        apart = subst AreApart (sym slots) tt;
        inside = (let many = fits.cpus in omega (arith, inside, many, cpu));
        count = actor.count ∙ ap (λ i. (cpu_of (now w []) i).count) (sym cpu);
        duty = actor.duty ∙ ap (λ i. (cpu_of (now w []) i).duty) (sym cpu);
        locks = (let a = fits.locks in let b = w.most_locks in omega (arith, a, b));
        chans = (let a = fits.chans in let b = w.most_chans in omega (arith, a, b));
      };
      log = log ∙ sym (by-nil c);
      settled = refl;
      counted = λ d n e. absurd (none_counted d n e);
    });
    cpu = cpu;
    free = ap how_many_held slots;
  }
    where
      none_there : (k : HomeId) (h : Home) → held k s.acting.hand.slots ≡ Some h → ⊥
      none_there k h e = let both : None ≡ Some h = sym (ap (held k) slots) ∙ e in absurd cc

      fits : FitsFully w (now w [])
      fits = (fit_reached w 0 (now w []) (reached w [] (IsRun-nil w))).fits

  -- so many seats were cut
  pub record Cut (n : ℕ) (seats : List Seat) : Type 0 where
    pub many : length seats ≡ n
    pub each : (c : ℕ) (s : Seat) → slice_get seats c ≡ Some s → IsSeatOf t w c s × (s.log.items ≡ [])

  pub cuts_first : (seats : List Seat) → seats ≡ [] → Cut 0 seats
  cuts_first seats e = subst (Cut 0) (sym e) (record { many = refl; each = λ c s at. absurd cc })

  pub cuts_next : (n : ℕ) (seats new : List Seat) (s : Seat) (c : ℕ) → Cut n seats → c ≡ n → IsSeatOf t w c s → s.log.items ≡ [] → new ≡ seats ++ s ∷ [] → Cut (n + 1) new
  cuts_next n seats new s c cut is seat log e = subst (Cut (n + 1)) (sym e) (record { many = length-append seats (s ∷ []) ∙ ap (λ m. m + 1) cut.many; each = λ d x at. by d x (snoc_cases seats s x d at) })
    where
      snoc_cases : (xs : List Seat) (y z : Seat) (i : ℕ) → slice_get (xs ++ y ∷ []) i ≡ Some z → (slice_get xs i ≡ Some z) ⊎ ((i ≡ length xs) × (y ≡ z))
      snoc_cases [] y z zero at = inr (refl, cc)
      snoc_cases [] y z (suc i) at = absurd cc
      snoc_cases (u ∷ us) y z zero at = inl at
      snoc_cases (u ∷ us) y z (suc i) at = ⊎_elim (λ q. inl q) (λ (q : (i ≡ length us) × (y ≡ z)). inr (ap suc q.0, q.1)) (snoc_cases us y z i at)

      by : (d : ℕ) (x : Seat) → (slice_get seats d ≡ Some x) ⊎ ((d ≡ length seats) × (s ≡ x)) → IsSeatOf t w d x × (x.log.items ≡ [])
      by d x (inl old) = cut.each d x old
      by d x (inr new) =
          let number : c ≡ d = is ∙ (sym cut.many ∙ sym new.0) in
          (subst (IsSeatOf t w d) new.1 (subst (λ i. IsSeatOf t w i s) number seat), ap (λ (y : Seat). y.log.items) (sym new.1) ∙ log)

  pub cuts_last : (n : ℕ) (seats : List Seat) → Cut n seats → n ≡ w.cpus → AreSeats t w seats
  cuts_last n seats cut is = record { many = cut.many ∙ is; each = λ c s at. (cut.each c s at).0 }

  pub cuts_new : (n : ℕ) (seats : List Seat) → Cut n seats → AreNew seats
  cuts_new n seats cut c s at = (cut.each c s at).1
