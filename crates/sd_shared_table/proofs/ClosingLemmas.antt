-- Seats that are taken back, and the run that a table stands for at its end.
use Rattle.std.proofs.Common.{◌≡◌, ◌≢◌, ◌⊎◌, ℕ, zero, suc, ◌+◌, ◌<◌, ◌≤◌, Bool, true, false, List, [], ◌∷◌, ◌++◌, length, get_or, map, reverse, set, Option, Some, None, refl, sym, ap, ◌∙◌, subst, inl, inr, ⊎_elim, arith, length-append}
use Rattle.std.specs.Prelude.{option_map, slice_get, slice_index, Vec}
use Rattle.std.specs.declared.alloc.Global.{Global}
use Rattle.std.proofs.lemmas.Bool.{cases_eq, cases_lt}
use Rattle.std.proofs.lemmas.List.{get_or-set_other, map-append}
use Rattle.std.proofs.lemmas.Option.{get_or_from_slice_get, slice_get-map, slice_get_within}
use Rattle.sd_basics.proofs.Lists.{get_last}
use mathlib.Core.Option as M
use lib.ListN.{get_elem?}
use Rattle.atomic_table.specs.Seated.{TableId}
use Rattle.atomic_table.specs.Table.{Final, Joins, Seen}
use Rattle.sd_types.specs.declared.numbers.HomeId.{HomeId}
use Rattle.sd_types.specs.declared.events.Entry.{Entry}
use Rattle.sd_types.specs.declared.works.Work.{Work}
use Rattle.sd_state.specs.declared.states.State.{State}
use Rattle.sd_state.specs.Opening.{opening}
use Rattle.sd_state.specs.States.{cpu_of}
use Rattle.sd_machine.specs.Events.{after}
use Rattle.sd_machine.specs.Runs.{IsRunFrom, final}
use Rattle.sd_machine.proofs.RunLemmas.{IsRun-from}
use Rattle.sd_invariants.proofs.Whole.{fit_reached}
use Rattle.sd_homes.specs.declared.home.Home.{Home}
use Rattle.sd_hand.specs.Hands.{AreSlots, IsHeld, held}
use Rattle.sd_hand.specs.OneHome.{AreAllHomes}
use Rattle.sd_world.specs.Told.{AreActorsOf, IsActorOf}
use Rattle.sd_world.specs.Homes.{ArePlaced, IsNumber, IsPlaced, index_of, sizes_of}
use Rattle.sd_world.specs.declared.plain.PlainWorld.{PlainWorld}
use Rattle.sd_world.specs.Plain.{Stands as StandsAsRun}
use Rattle.sd_world.proofs.ComeLemmas.{all_homes}
use Rattle.sd_world.proofs.NumberLemmas.{held_slot, index_below, placed_apart, slot_of_number}
use Rattle.sd_world.proofs.PlainLemmas.{stands_begun}
use Rattle.sd_shared_rule.specs.declared.views.View.{View}
use Rattle.sd_shared_rule.specs.declared.views.View.TheVariants.{Gathers, Spent}
use Rattle.sd_shared_rule.specs.Ledgers.{Since, by}
use Rattle.sd_shared_rule.specs.Places.{Stands, home_count, now, sizes}
use Rattle.sd_shared_rule.specs.Plays.{Slot}
use Rattle.sd_shared_rule.specs.Rule.{Kept}
use Rattle.sd_shared_rule.proofs.Bridge.{reached}
use Rattle.sd_shared_rule.proofs.Making.{closes, gathers}
use Rattle.sd_shared_table.specs.declared.closing.Ended.{Ended}
use Rattle.sd_shared_table.specs.declared.closing.Gathered.{Gathered}
use Rattle.sd_shared_table.specs.declared.seat.Seat.{Seat}
use Rattle.sd_shared_table.specs.Intents.{gathers_more}
use Rattle.sd_shared_table.specs.Logs.{AreLogsOf}
use Rattle.sd_shared_table.specs.Seats.{Fits, desk, indices, lent}
use Rattle.sd_shared_table.specs.Whole.{AreLogged, AreSeats, HasEnded, IsGathered, IsSeatOf}
use Rattle.sd_shared_table.proofs.LogLemmas.{at_early, empty_by}
use Rattle.sd_shared_table.proofs.Stood.{has_stood}
use Rattle.sd_invariants.proofs.Ready.{maker_inside}

-- as many as there were
long_map : {X Y : Type 0} (f : X → Y) (xs : List X) → length (map f xs) ≡ length xs
long_map f [] = refl
long_map f (x ∷ xs) = ap suc (long_map f xs)

-- A seat is taken back.

module _ (w : Work) (t : TableId) (done : List Seat) (g : Gathered) (s : Seat) (is : IsGathered t done g) (seat : IsSeatOf t w (length done) s) where
  abbrev seens : List (List Entry)
  seens = map (λ (x : Seat). (desk x).seen) done

  held_none : (desk s).held ≡ []
  held_none =
      let count = seat.fits.count in
      let free = seat.free in
      let none : s.order.items ≡ [] = empty_by s.order.items (omega (arith, count, free)) in
      seat.fits.order ∙ ap (λ l. indices w (reverse l)) none

  pub nothing_carried : s.place.me.1 ≡ []
  nothing_carried = ap (λ m. m.1) seat.fits.view ∙ ap lent held_none

  pub joins : (id other : ℕ) → Joins (Kept w) id g.place.me.0 other s.place.me.0 (gathers_more g.place.me.0 s.place.me.0) Spent
  joins id other =
      let cpu : (desk s).cpu ≡ length (map (λ (x : Seat). (desk x).seen) done) = seat.fits.cpu ∙ (seat.cpu ∙ sym (long_map (λ (x : Seat). (desk x).seen) done)) in
      subst (λ v. Joins (Kept w) id v other s.place.me.0 (gathers_more v s.place.me.0) Spent) (sym (ap (λ m. m.0) is.view))
      (subst (λ v. Joins (Kept w) id (Gathers (map (λ (x : Seat). (desk x).seen) done)) other v (gathers_more (Gathers (map (λ (x : Seat). (desk x).seen) done)) v) Spent) (sym (ap (λ m. m.0) seat.fits.view))
      (gathers w id other (map (λ (x : Seat). (desk x).seen) done) (desk s) cpu held_none seat.fits.settled))

-- one seat more
pub gathered_next : (w : Work) (t : TableId) (done : List Seat) (g new : Gathered) (s : Seat) → Fits t w s → IsGathered t done g → new.place.table_id ≡ g.place.table_id → new.place.me ≡ (gathers_more g.place.me.0 s.place.me.0, g.place.me.1)
    → new.actors.items ≡ g.actors.items ++ s.acting.actor ∷ [] → new.logs.items ≡ g.logs.items ++ s.log ∷ [] → IsGathered t (done ++ s ∷ []) new
gathered_next w t done g new s fits is table view actors logs = record {
  table = table ∙ is.table;
  view = view ∙ ((λ i. (gathers_more (is.view i).0 (fits.view i).0, (is.view i).1)) ∙ ap (λ l. (Gathers l, [])) (sym (map-append (λ (x : Seat). (desk x).seen) done (s ∷ []))));
  actors = actors ∙ (ap (λ l. l ++ s.acting.actor ∷ []) is.actors ∙ sym (map-append (λ (x : Seat). x.acting.actor) done (s ∷ [])));
  logs = logs ∙ (ap (λ l. l ++ s.log ∷ []) is.logs ∙ sym (map-append (λ (x : Seat). x.log) done (s ∷ [])));
}

pub gathered_none : (t : TableId) (g : Gathered) → g.place.table_id ≡ t → g.place.me ≡ (Gathers [], []) → g.actors.items ≡ [] → g.logs.items ≡ [] → IsGathered t [] g
gathered_none t g table view actors logs = record { table = table; view = view; actors = actors; logs = logs }

-- the seat that comes next
pub seat_next : (w : Work) (t : TableId) (seats done rest : List Seat) (s : Seat) → AreSeats t w seats → done ++ (s ∷ rest) ≡ seats → IsSeatOf t w (length done) s
seat_next w t seats done rest s are e = are.each (length done) s (ap (λ l. slice_get l (length done)) (sym e) ∙ there done)
  where
    there : (xs : List Seat) → slice_get (xs ++ (s ∷ rest)) (length xs) ≡ Some s
    there [] = refl
    there (x ∷ xs) = there xs

-- The slots of a table at its end.

pub elem_word : (ws : List ℕ) (i n : ℕ) → get_elem? ws i ≡ M.some n → slice_index ws i ≡ n
elem_word [] i n e = absurd cc
elem_word (x ∷ xs) zero n e = M.some-injective x n e
elem_word (x ∷ xs) (suc i) n e = elem_word xs i n e

-- so many were taken out, in order
pub record Taken (xs : List Slot) (i : ℕ) (out : List Slot) : Type 0 where
  pub many : length out ≡ i
  pub each : (k : ℕ) (y : Slot) → k < i → get_elem? xs k ≡ M.some y → slice_get out k ≡ Some y

pub taken_none : (xs out : List Slot) → out ≡ [] → Taken xs 0 out
taken_none xs out e = record { many = ap length e; each = λ k y below. absurd (omega (arith, below)) }

pub taken_next : (xs : List Slot) (i : ℕ) (out new : List Slot) (x : Slot) → Taken xs i out → get_elem? xs i ≡ M.some x → new ≡ out ++ x ∷ [] → Taken xs (i + 1) new
taken_next xs i out new x t at e = subst (Taken xs (i + 1)) (sym e) (record {
  many = length-append out (x ∷ []) ∙ ap (λ m. m + 1) t.many;
  each = λ k y below is. by k y below is (cases_lt k i);
})
  where
    by : (k : ℕ) (y : Slot) → k < i + 1 → get_elem? xs k ≡ M.some y → (k < i) ⊎ (i ≤ k) → slice_get (out ++ x ∷ []) k ≡ Some y
    by k y below is (inl before) = at_early out x y k (t.each k y before is)
    by k y below is (inr behind) =
        let same : k ≡ i = omega (arith, below, behind) in
        let one : x ≡ y = M.some-injective x y (sym at ∙ (ap (get_elem? xs) (sym same) ∙ is)) in
        ap (slice_get (out ++ x ∷ [])) (same ∙ sym t.many) ∙ (get_last out x ∙ ap Some one)

-- a place that was emptied
pub emptied_rest : (fs gs : List Bool) (i n m : ℕ) → gs ≡ set fs i false → ((k : ℕ) → i ≤ k → k < n → get_or fs k false ≡ true) → m ≡ n → (k : ℕ) → i + 1 ≤ k → k < m → get_or gs k false ≡ true
emptied_rest fs gs i n m e full same k far below = ap (λ l. get_or l k false) e ∙ (get_or-set_other fs i k false false (λ q. absurd (omega (arith, q, far))) ∙ full k (omega (arith, far)) (omega (arith, below, same)))

set_false : (fs : List Bool) (i : ℕ) → get_or (set fs i false) i false ≡ false
set_false [] i = refl
set_false (x ∷ xs) zero = refl
set_false (x ∷ xs) (suc i) = set_false xs i

pub emptied_more : (fs gs : List Bool) (i : ℕ) → gs ≡ set fs i false → ((k : ℕ) → k < i → get_or fs k false ≡ false) → (k : ℕ) → k < i + 1 → get_or gs k false ≡ false
emptied_more fs gs i e empty k below = ap (λ l. get_or l k false) e ∙ ⊎_elim
    (λ (q : k ≡ i). ap (λ j. get_or (set fs i false) j false) q ∙ set_false fs i)
    (λ (n : k ≢ i). get_or-set_other fs i k false false n ∙ empty k (omega (arith, below, n)))
    (cases_eq k i)

seens_of : View → List (List Entry)
seens_of (Gathers s) = s
seens_of v = []

pub same_seens : (v : View) (a b : List (List Entry)) → v ≡ Gathers a → v ≡ Gathers b → a ≡ b
unfolding seens_of
same_seens v a b e f = ap seens_of (sym e ∙ f)

pub ends_so : (w : Work) (id : ℕ) (v : View) (ws : List ℕ) (xs : List Slot) (count : ℕ) (x : Ended) → Final (Seen (Kept w) id v) ws xs → get_elem? ws (home_count w) ≡ M.some count → x.count ≡ count → Taken xs (home_count w) x.slots.items
    → (seens : List (List Entry)) → v ≡ Gathers seens → length seens ≡ w.cpus → HasEnded w seens x
ends_so w id v ws xs count x final at same taken seens is all =
    let (h, run, stamp, homes, since) = closes w id seens ws xs all (subst (λ u. Final (Seen (Kept w) id u) ws xs) is final) in
    record {
      entries = h;
      run = run;
      count = same ∙ (sym (elem_word ws (home_count w) count at) ∙ stamp);
      many = taken.many;
      homes = λ k below. let y = homes k below in (y.0, taken.each k (Some y.0) below y.1, y.2);
      since = since;
    }

-- what the seats had seen
pub seens_are : (t : TableId) (w : Work) (seats : List Seat) (g : Gathered) → AreSeats t w seats → IsGathered t seats g → (seens : List (List Entry)) × (g.place.me.0 ≡ Gathers seens) × (length seens ≡ w.cpus)
seens_are t w seats g are is = (map (λ (s : Seat). (desk s).seen) seats, ap (λ m. m.0) is.view, long_map (λ (s : Seat). (desk s).seen) seats ∙ are.many)

-- The run that it stands for.

run_each : (w : Work) (s : State) (n : ℕ) (h : List Entry) → IsRunFrom w s n h → (i : ℕ) (e : Entry) → slice_get h i ≡ Some e → (e.number ≡ n + i) × (e.cpu.0 < w.cpus)
unfolding IsRunFrom
run_each w s n [] run i e at = absurd cc
run_each w s n (x ∷ xs) (a, b, r) zero e at =
    let is : x ≡ e = cc in
    (ap (λ (y : Entry). y.number) (sym is) ∙ (let z : x.number ≡ n + 0 = omega (arith, a) in z), subst (λ (y : Entry). y.cpu.0 < w.cpus) is (maker_inside w s x.cpu x.hints x.event b))
run_each w s n (x ∷ xs) (a, b, r) (suc i) e at =
    let q = run_each w (after w s x.number x.cpu x.event) (n + 1) xs r i e at in
    ((let z = q.0 in omega (arith, z)), q.1)

none_past : (xs : List Seat) (i : ℕ) → i < length xs → slice_get xs i ≡ None → ⊥
none_past [] i b e = absurd (omega (arith, b))
none_past (y ∷ ys) zero b e = absurd cc
none_past (y ∷ ys) (suc i) b e = none_past ys i (omega (arith, b)) e

module _ (w : Work) (t : TableId) (seats : List Seat) (g : Gathered) (x : Ended) (are : AreSeats t w seats) (is : IsGathered t seats g) (ended : HasEnded w (map (λ (s : Seat). (desk s).seen) seats) x) where
  abbrev h : List Entry
  h = ended.entries

  seat_at : (c : ℕ) → c < w.cpus → (s : Seat) × (slice_get seats c ≡ Some s) × IsSeatOf t w c s × Since w c [] (desk s).seen ended.entries
  seat_at c below = by (slice_get seats c) refl
    where
      by : (o : Option Seat) → slice_get seats c ≡ o → (s : Seat) × (slice_get seats c ≡ Some s) × IsSeatOf t w c s × Since w c [] (desk s).seen ended.entries
      by (Some s) at = (s, at, are.each c s at, subst (λ l. Since w c [] l ended.entries) (get_or_from_slice_get (map (λ (y : Seat). (desk y).seen) seats) c (desk s).seen [] (slice_get-map (λ (y : Seat). (desk y).seen) seats c ∙ ap (option_map (λ (y : Seat). (desk y).seen)) at)) (ended.since c below))
      by None at = absurd (none_past seats c (let many = are.many in omega (arith, many, below)) at)

  inside : (c : ℕ) (s : Seat) → slice_get seats c ≡ Some s → c < w.cpus
  inside c s at = subst (λ m. c < m) are.many (slice_get_within seats c s at)

  since_of : (c : ℕ) (s : Seat) → slice_get seats c ≡ Some s → Since w c [] (desk s).seen ended.entries
  since_of c s at =
      let there = seat_at c (inside c s at) in
      let both : Some there.0 ≡ Some s = sym there.1 ∙ at in
      let same : there.0 ≡ s = cc in
      subst (λ (y : Seat). Since w c [] (desk y).seen ended.entries) same there.3

  pub logged : AreLogged ended.entries seats
  logged c s at =
      let seat = are.each c s at in
      let own : (desk s).cpu ≡ c = seat.fits.cpu ∙ seat.cpu in
      sym (seat.fits.log ∙ (ap (λ d. by d (desk s).seen) own ∙ (since_of c s at).mine))

  mapped : {X Y : Type 0} (f : X → Y) (xs : List X) (c : ℕ) (y : Y) → slice_get (map f xs) c ≡ Some y → (z : X) × (slice_get xs c ≡ Some z) × (f z ≡ y)
  mapped f [] c y e = absurd cc
  mapped f (z ∷ zs) zero y e = (z, refl, cc)
  mapped f (z ∷ zs) (suc c) y e = mapped f zs c y e

  pub logs_of : AreLogsOf ended.entries g.logs.items
  logs_of = record {
    numbered = λ i e at. (each i e at).0;
    within = λ i e at. subst (λ m. e.cpu.0 < m) (sym many) (each i e at).1;
    each = λ c log at.
        let m = mapped (λ (s : Seat). s.log) seats c log (ap (λ l. slice_get l c) (sym is.logs) ∙ at) in
        ap (λ (l : Vec Entry Global). l.items) (sym m.2) ∙ sym (logged c m.0 m.1);
  }
    where
      each : (i : ℕ) (e : Entry) → slice_get ended.entries i ≡ Some e → (e.number ≡ i) × (e.cpu.0 < w.cpus)
      each i e at = let q = run_each w (opening w) 0 ended.entries (IsRun-from w ended.entries ended.run) i e at in ((let z = q.0 in omega (arith, z)), q.1)

      many : length g.logs.items ≡ w.cpus
      many = ap length is.logs ∙ (long_map (λ (s : Seat). s.log) seats ∙ are.many)

  pub actors_of : AreActorsOf (now w ended.entries) g.actors.items
  actors_of = record {
    many = ap length is.actors ∙ (long_map (λ (s : Seat). s.acting.actor) seats ∙ (are.many ∙ sym (fit_reached w (length ended.entries) (now w ended.entries) (reached w ended.entries ended.run)).fits.cpus));
    each = λ c a at.
        let m = mapped (λ (s : Seat). s.acting.actor) seats c a (ap (λ l. slice_get l c) (sym is.actors) ∙ at) in
        subst (IsActorOf (now w ended.entries) c) m.2 (actor c m.0 m.1);
  }
    where
      actor : (c : ℕ) (s : Seat) → slice_get seats c ≡ Some s → IsActorOf (now w ended.entries) c s.acting.actor
      actor c s at =
          let seat = are.each c s at in
          let since = since_of c s at in
          record {
            cpu = seat.cpu;
            count = seat.fits.shown.count ∙ (ap (λ i. (cpu_of (now w (desk s).seen) i).count) seat.cpu ∙ since.count);
            duty = seat.fits.shown.duty ∙ (ap (λ i. (cpu_of (now w (desk s).seen) i).duty) seat.cpu ∙ since.duty);
          }

  -- the homes
  there : (k : HomeId) (y : Home) → held k x.slots.items ≡ Some y → (i : ℕ) × (slice_get x.slots.items i ≡ Some (Some y)) × Stands w i ended.entries y
  there k y e =
      let (i, at) = held_slot k x.slots.items y e in
      let below : i < home_count w = subst (λ m. i < m) ended.many (slice_get_within x.slots.items i (Some y) at) in
      let z = ended.homes i below in
      let both : Some (Some z.0) ≡ Some (Some y) = sym z.1 ∙ at in
      let same : z.0 ≡ y = cc in
      (i, at, subst (Stands w i ended.entries) same z.2)

  placed : ArePlaced (sizes w) x.slots.items
  placed = record {
    many = ended.many;
    each = λ i y at.
        let below : i < home_count w = subst (λ m. i < m) ended.many (slice_get_within x.slots.items i (Some y) at) in
        let z = ended.homes i below in
        let both : Some (Some z.0) ≡ Some (Some y) = sym z.1 ∙ at in
        let same : z.0 ≡ y = cc in
        subst (IsPlaced (sizes w) i) same z.2.placed;
  }

  all_there : (k : HomeId) → IsNumber (sizes w) k → IsHeld k x.slots.items
  all_there k number =
      let z = ended.homes (index_of (sizes w) k) (index_below (sizes w) k number) in
      let slot = slot_of_number (sizes w) x.slots.items k z.0 placed number z.1 in
      (slot.home, slot.first)

  sizes_are : sizes w ≡ sizes_of (now w ended.entries)
  sizes_are = let f = (fit_reached w (length ended.entries) (now w ended.entries) (reached w ended.entries ended.run)).fits in λ i. record { cpus = sym f.cpus i; sets = sym f.sets i }

  pub homes_of : AreAllHomes (length ended.entries) (now w ended.entries) x.slots.items
  homes_of = all_homes w (length ended.entries) (now w ended.entries) (sizes w) x.slots.items (reached w ended.entries ended.run) sizes_are placed all_there (λ k y e. (there k y e).2.shown)

  pub are_slots : AreSlots x.slots.items
  are_slots = record { apart = placed_apart (sizes w) x.slots.items placed; four = (let many = ended.many in omega (arith, many)) }

  pub some_actor : 0 < length g.actors.items
  some_actor = let many = actors_of.many in let cpus = (fit_reached w (length ended.entries) (now w ended.entries) (reached w ended.entries ended.run)).fits.cpus in let some = w.some_cpu in omega (arith, many, cpus, some)

  pub stands_again : (p : PlainWorld) → p.entries.items ≡ ended.entries → p.acting.hand.slots ≡ x.slots.items → p.actors.items ≡ g.actors.items → slice_get p.actors.items 0 ≡ Some p.acting.actor → StandsAsRun w p
  stands_again p entries slots actors first =
      stands_begun w (now w ended.entries) ended.entries ended.run refl p x.slots.items (has_stood w ended.entries ended.run) entries homes_of slots (subst (AreActorsOf (now w ended.entries)) (sym actors) actors_of) first
