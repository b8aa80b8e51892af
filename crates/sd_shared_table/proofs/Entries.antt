-- A seat makes an entry: what it asks of the table, and that it fits afterwards.
use Rattle.std.proofs.Common.{◌≡◌, ◌≢◌, ◌⊎◌, ℕ, zero, suc, ◌+◌, ◌<◌, ◌≤◌, Bool, true, false, List, [], ◌∷◌, ◌++◌, length, filter, reverse, is_some, MatchOption, Option, Some, None, refl, sym, ap, ◌∙◌, subst, inl, inr, ⊎_elim, arith, append-nil, length-append}
use Rattle.std.specs.Prelude.{not, ◌==◌}
use Rattle.std.specs.List.{range_with_len}
use Rattle.std.proofs.lemmas.Bool.{false≢true}
use Rattle.sd_basics.proofs.Lists.{some_of}
use Rattle.arrayvec.specs.ArrayVec.{ArrayVec}
use Rattle.atomic_table.specs.Seated.{TableId}
use Rattle.sd_types.specs.Partitions.{cpu_of_number}
use Rattle.sd_types.specs.declared.numbers.CpuId.{CpuId}
use Rattle.sd_types.specs.declared.numbers.HomeId.{HomeId}
use Rattle.sd_types.specs.declared.numbers.HomeId.TheVariants as id
use Rattle.sd_types.specs.declared.numbers.ThreadId.{ThreadId}
use Rattle.sd_types.specs.declared.events.Entry.{Entry}
use Rattle.sd_types.specs.declared.events.Event.{Event}
use Rattle.sd_types.specs.declared.events.Hints.{Hints}
use Rattle.sd_types.specs.declared.events.Which.{Which}
use Rattle.sd_types.specs.declared.works.Work.{Work}
use Rattle.sd_state.specs.declared.states.State.{State}
use Rattle.sd_state.specs.States.{thread_of}
use Rattle.sd_machine.specs.Events.{after, next}
use Rattle.sd_machine.specs.Hints.{reads}
use Rattle.sd_machine.specs.Runs.{IsReached, IsRun}
use Rattle.sd_invariants.proofs.Whole.{fit_reached}
use Rattle.sd_store.specs.declared.parts.Part.{Part}
use Rattle.sd_store.specs.declared.parts.Part.TheVariants as part
use Rattle.sd_store.specs.Parts.{IsAmong}
use Rattle.sd_step.specs.Touched.{after_parts}
use Rattle.sd_homes.specs.Standing.{home_at, home_of, list_of}
use Rattle.sd_homes.specs.Numbers.{IsHomeOf}
use Rattle.sd_homes.specs.declared.home.Home.{Home}
use Rattle.sd_homes.specs.Families.{home_id}
use Rattle.sd_hand.specs.declared.acting.Acting.{Acting}
use Rattle.sd_hand.specs.Acting.{IsShown, has_part}
use Rattle.sd_hand.specs.Hands.{has_thread, held}
use Rattle.sd_hand.proofs.GuideLemmas.{stands_guessed}
use Rattle.sd_hand.proofs.MoveLemmas.{taken}
use Rattle.sd_hand.proofs.SlotLemmas.{stands_has}
use Rattle.sd_hand.proofs.StandLemmas.{home_held}
use Rattle.sd_footprint.specs.Homes.{home_in}
use Rattle.sd_world.specs.Homes.{IsNumber}
use Rattle.sd_world.specs.Worlds.{AllHinted, CanCommit, Commits, MayStand, MayUse}
use Rattle.sd_shared_rule.specs.declared.views.Desk.{Desk}
use Rattle.sd_shared_rule.specs.declared.views.View.TheVariants.{Works}
use Rattle.sd_shared_rule.specs.Ledgers.{by}
use Rattle.sd_shared_rule.specs.Movers.{IsMover, mover}
use Rattle.sd_shared_rule.specs.Places.{Touches, holds, moved, now, place_home, sizes}
use Rattle.sd_shared_rule.specs.Plays.{AllNoted, HintsNoted, MayCommit, Sees, committing, desk_of, entry_as, is_noted}
use Rattle.sd_shared_rule.proofs.Bridge.{moves, now_push, place_number, reached}
use Rattle.sd_shared_rule.proofs.Lists.{by_mine}
use Rattle.sd_shared_rule.proofs.Movers.{moves_mover}
use Rattle.sd_shared_rule.proofs.Since.{reached_still}
use Rattle.sd_shared_rule.proofs.Commits.{apart_if}
use Rattle.sd_shared_table.specs.declared.seat.Seat.{Seat}
use Rattle.sd_shared_table.specs.declared.seat.Held.{Held}
use Rattle.sd_shared_table.specs.Seats.{AreMoved, AreNumbers, Fits, FitsAs, HasMade, IsMoved, MayMake, Publishes, desk, indices, seat_meaning}
use Rattle.sd_shared_table.proofs.Counting.{same_count}
use Rattle.sd_shared_table.proofs.Fitting.{fits_as, may_stand}
use Rattle.sd_world.proofs.WorldLemmas.{begins_then}

-- Hints.

all_noted : (w : Work) (s : Seat) (which : Which) (cs : List CpuId) (ns : List ℕ) → AllHinted (seat_meaning w s) which cs ns → AllNoted (desk s).hints which cs ns
all_noted w s which [] [] h = tt
all_noted w s which [] (n ∷ ns) h = absurd h
all_noted w s which (c ∷ cs) [] h = absurd h
all_noted w s which (c ∷ cs) (n ∷ ns) h = (h.0, all_noted w s which cs ns h.1)

none_noted : (c : ℕ) (which : Which) (n : ℕ) → is_noted [] c which n ≡ false
unfolding is_noted
none_noted c which n = refl

-- Threads that moved.

none_from : (p : ℕ → Bool) (a n : ℕ) → ((t : ℕ) → a ≤ t → p t ≡ false) → filter p (range_with_len a n) ≡ []
none_from p a zero none = refl
none_from p a (suc n) none = let e = none_from p (a + 1) n (λ t l. none t (omega (arith, l))) in rw (none a (omega arith)) e

one_from : (p : ℕ → Bool) (u a n : ℕ) → ((t : ℕ) → p t ≡ true → t ≡ u) → (filter p (range_with_len a n) ≡ []) ⊎ ((filter p (range_with_len a n) ≡ u ∷ []) × (p u ≡ true) × (u < a + n))
one_from p u a zero only = inl refl
one_from p u a (suc n) only = by (p a) refl (one_from p u (a + 1) n only)
  where
    out : (t : ℕ) → p a ≡ true → a + 1 ≤ t → (b : Bool) → p t ≡ b → p t ≡ false
    out t on l true e = (let x = only a on in let y = only t e in absurd (omega (arith, x, y, l)))
    out t on l false e = e

    by : (b : Bool) → p a ≡ b → (filter p (range_with_len (a + 1) n) ≡ []) ⊎ ((filter p (range_with_len (a + 1) n) ≡ u ∷ []) × (p u ≡ true) × (u < a + 1 + n))
        → (filter p (range_with_len a (suc n)) ≡ []) ⊎ ((filter p (range_with_len a (suc n)) ≡ u ∷ []) × (p u ≡ true) × (u < a + suc n))
    by true e r =
        let is = only a e in
        let rest = none_from p (a + 1) n (λ t l. out t e l (p t) refl) in
        inr (rw e (ap (λ xs. a ∷ xs) rest ∙ ap (λ x. x ∷ []) is), ap p (sym is) ∙ e, (omega (arith, is)))
    by false e r = ⊎_elim (λ q. inl (rw e q)) (λ (q : (filter p (range_with_len (a + 1) n) ≡ u ∷ []) × (p u ≡ true) × (u < a + 1 + n)). inr (rw e q.0, q.1, (let z = q.2 in omega (arith, z)))) r

home_there : (w : Work) (s : State) (k : HomeId) → length s.cpus ≡ w.cpus → length s.open_cpus ≡ length w.sets + 1 → IsNumber (sizes w) k → IsHomeOf s k
home_there w s (id.Cpu c) cpus sets is = subst (λ m. c.0 < m) (sym cpus) is
home_there w s (id.RealTime p) cpus sets is = subst (λ m. p.0 < m) (sym sets) is
home_there w s (id.Chain i) cpus sets is = is
home_there w s (id.Sleepers i) cpus sets is = is

none_some : (o : Option ThreadId) (u : ThreadId) → o ≡ None → o ≡ Some u → ⊥
none_some o u a b = let z : None ≡ Some u = sym a ∙ b in absurd cc

module _ (w : Work) (t : TableId) (s : Seat) (f : Fits t w s) where
  pub cpu_is : cpu_of_number (desk s).cpu ≡ s.acting.actor.cpu
  cpu_is = λ i. record { 0 = f.cpu i }

  noted : (hints : Option Hints) (h : List Entry) → MayUse (seat_meaning w s) hints → MayStand (seat_meaning w s) h → HintsNoted w (now w h) (desk s) hints
  noted None h given may = tt
  noted (Some hs) h given may =
      (given.0, subst (λ c. reads w (now w h) c ≡ Some (hs.which, given.0)) (sym f.cpu) (given.1 h may), all_noted w s hs.which given.0 hs.numbers.items given.2)

  -- the home of a part that the hand has is held
  held_of : (h : List Entry) → IsShown s.acting (length h) (now w h) → IsRun w h → (p : Part) (k : HomeId) → has_part s.acting p ≡ true → home_in (now w h) p ≡ Some k → is_some (held k s.acting.hand.slots) ≡ true
  held_of h sh run (part.Home j) k has is = let same : j ≡ k = cc in ap (λ i. is_some (held i s.acting.hand.slots)) (sym same) ∙ has
  held_of h sh run (part.Thread u) k has is =
      let hs = s.acting.hand.slots in
      let fits = (fit_reached w (length h) (now w h) (reached w h run)).fits in
      let (x, there) = (home_held (length h) (now w h) u.0 hs sh.apart sh.homes (λ y held. home_there w (now w h) (home_id y) fits.cpus fits.sets (f.numbers (home_id y) held)) has).1 in
      let same : home_of (thread_of (now w h) u.0) ≡ k = cc in
      ap is_some (ap (λ i. held i hs) (sym same) ∙ there)
  held_of h sh run (part.Actor d) k has is = absurd cc

  touched_held : (h : List Entry) (e : Event) (k : ℕ) → IsShown s.acting (length h) (now w h) → IsRun w h → ((p : Part) → IsAmong p (after_parts w (now w h) s.acting.actor.cpu e) → has_part s.acting p ≡ true)
      → Touches w (now w h) (cpu_of_number (desk s).cpu) e k → holds k (desk s).held ≡ true
  touched_held h e k sh run has is =
      let among = subst (λ c. IsAmong is.part (after_parts w (now w h) c e)) cpu_is is.among in
      let some = held_of h sh run is.part is.home (has is.part among) is.there in
      let number = f.numbers is.home (some_of (held is.home s.acting.hand.slots) some) in
      subst (λ i. holds i (desk s).held ≡ true) is.index (f.held is.home number ∙ some)

  pub may_commit : (e : Event) (hints : Option Hints) (v : Work) → CanCommit (seat_meaning w s) v e hints → (h : List Entry) → Sees w (desk s) h → MayCommit w (desk s) e hints h
  may_commit e hints v can h seen =
      let may = may_stand w t s h f seen in
      record {
        step = subst (λ c. next w (now w h) c hints ≡ Some e) (sym cpu_is) (can.makes h may);
        touched = λ k is. touched_held h e k may.shown may.run (can.holds h may) is;
        noted = noted hints h can.noted may;
      }

  pub may_make : (e : Event) (hints : Option Hints) (v : Work) (h : List Entry) (n : ℕ) → CanCommit (seat_meaning w s) v e hints → Sees w (desk s) h → length h ≡ n → MayMake w n e hints s.acting
  may_make e hints v h n can seen many =
      let may = may_stand w t s h f seen in
      record {
        state = now w h;
        reached = subst (λ m. IsReached w m (now w h)) many (reached w h seen.run);
        shown = subst (λ m. IsShown s.acting m (now w h)) many may.shown;
        next = can.makes h may;
        holds = can.holds h may;
      }

  -- the seat after the entry
  module _ (e : Event) (hints : Option Hints) (v : Work) (h : List Entry) (n : ℕ) (s1 : Seat) (can : CanCommit (seat_meaning w s) v e hints) (seen : Sees w (desk s) h) (many : length h ≡ n)
      (run : IsRun w (h ++ entry_as n (desk s).cpu e hints ∷ [])) (table : s1.place.table_id ≡ t) (view : s1.place.me ≡ (Works (committing w (desk s) h e hints), s.place.me.1))
      (made : HasMade w n e hints s.acting s1.acting) (has : has_part s1.acting ≡ has_part s.acting) (cpu : s1.acting.actor.cpu ≡ s.acting.actor.cpu) (order : s1.order ≡ s.order)
      (log : s1.log.items ≡ s.log.items ++ record { number = n; cpu = s.acting.actor.cpu; event = e; hints = hints } ∷ []) where
    abbrev entry : Entry
    entry = entry_as (length h) (desk s).cpu e hints

    abbrev whole : List Entry
    whole = h ++ entry_as (length h) (desk s).cpu e hints ∷ []

    abbrev strays : List ℕ
    strays = moved w (now w h) (now w (h ++ entry_as (length h) (desk s).cpu e hints ∷ [])) ++ (desk s).stray

    run_whole : IsRun w (h ++ entry_as (length h) (desk s).cpu e hints ∷ [])
    run_whole = subst (λ m. IsRun w (h ++ entry_as m (desk s).cpu e hints ∷ [])) (sym many) run

    same_entry : entry_as (length h) (desk s).cpu e hints ≡ record { number = n; cpu = s.acting.actor.cpu; event = e; hints = hints }
    same_entry = λ i. record { number = many i; cpu = cpu_is i; event = e; hints = hints }

    shown : IsShown s1.acting (length (h ++ entry_as (length h) (desk s).cpu e hints ∷ [])) (now w (h ++ entry_as (length h) (desk s).cpu e hints ∷ []))
    shown =
        let may = may_stand w t s h f seen in
        let one : IsShown s1.acting (n + 1) (after w (now w h) n s.acting.actor.cpu e) = made (now w h) (subst (λ m. IsReached w m (now w h)) many (reached w h seen.run)) (subst (λ m. IsShown s.acting m (now w h)) many may.shown) (can.makes h may) in
        let count : n + 1 ≡ length whole = (let a = length-append h (entry ∷ []) in omega (arith, a, many)) in
        let goes : after w (now w h) n s.acting.actor.cpu e ≡ now w whole = sym (λ i. after w (now w h) (many i) (cpu_is i) e) ∙ sym (now_push w h entry run_whole) in
        subst (λ m. IsShown s1.acting m (now w whole)) count (subst (IsShown s1.acting (n + 1)) goes one)

    held_still : (k : HomeId) → is_some (held k s.acting.hand.slots) ≡ is_some (held k s1.acting.hand.slots)
    held_still k = ap (λ g. g (part.Home k)) (sym has)

    pub fits_made : FitsAs t w (moved w (now w h) (now w (h ++ entry_as (length h) (desk s).cpu e hints ∷ [])) ++ (desk s).stray) (desk s1) s1
    fits_made = fits_as w t strays (committing w (desk s) h e hints) s1 (record {
      table = table;
      view = view ∙ ap (λ l. (Works (committing w (desk s) h e hints), l)) (ap (λ m. m.1) f.view);
      cpu = f.cpu ∙ ap (λ (c : CpuId). c.0) (sym cpu);
      inside = f.inside;
      order = f.order ∙ ap (λ (o : ArrayVec Held). indices w (reverse o.items)) (sym order);
      each = subst (λ (o : ArrayVec Held). AreNumbers w (reverse o.items)) (sym order) f.each;
      count = ap (λ (o : ArrayVec Held). length o.items) order ∙ (f.count ∙ same_count s.acting.hand.slots s1.acting.hand.slots f.shown.apart shown.apart held_still);
      apart = f.apart;
      numbers = λ k is. f.numbers k (some_of (held k s.acting.hand.slots) (held_still k ∙ ap is_some is.1));
      held = λ k is. f.held k is ∙ held_still k;
      run = run_whole;
      shown = shown;
      log = log ∙ (ap (λ l. l ++ record { number = n; cpu = s.acting.actor.cpu; event = e; hints = hints } ∷ []) (f.log ∙ seen.since.mine) ∙ (ap (λ y. by (desk s).cpu h ++ y ∷ []) (sym same_entry) ∙ sym (by_mine (desk s).cpu h entry refl)));
      settled = refl;
      counted = λ c m is. reached_still w (desk s).seen whole (begins_then (desk s).seen h whole seen.since.begins (entry ∷ [], refl)) run_whole c m (f.counted c m is);
    })

    stander : (u : ℕ) → u < length w.threads → holds (place_home w (now w (h ++ entry_as (length h) (desk s).cpu e hints ∷ [])) u) (desk s).held ≡ true → has_thread u s1.acting.hand.slots ≡ true
    unfolding place_home
    stander u inside here =
        let new = now w whole in
        let number = place_number w whole run_whole u in
        let some : is_some (held (home_of (thread_of new u)) s1.acting.hand.slots) ≡ true = sym (held_still (home_of (thread_of new u))) ∙ (sym (f.held (home_of (thread_of new u)) number) ∙ here) in
        let at = list_of (thread_of new u) in
        let there : u < length new.threads = (let a = (fit_reached w (length whole) new (reached w whole run_whole)).fits.threads in omega (arith, a, inside)) in
        let is = taken (length whole) new u at s1.acting.hand.slots (record { inside = there; list = refl }) shown.homes (some_of (held (home_at at) s1.acting.hand.slots) some) in
        stands_has u s1.acting.hand.slots at (stands_guessed u at s1.acting.hand.slots (ap is_some is))

    -- a thread that moved stands in the hand
    moved_in : (u : ℕ) → u < length w.threads → place_home w (now w h) u ≢ place_home w (now w (h ++ entry_as (length h) (desk s).cpu e hints ∷ [])) u → has_thread u s1.acting.hand.slots ≡ true
    moved_in u inside apart =
        let may = may_stand w t s h f seen in
        let to = (moves w h entry run_whole u apart).1 in
        let here = touched_held h e (place_home w (now w whole) u) may.shown may.run (can.holds h may) to in
        stander u inside here

    pub are_moved : AreMoved e s1.acting (moved w (now w h) (now w (h ++ entry_as (length h) (desk s).cpu e hints ∷ [])) ++ (desk s).stray)
    unfolding moved
    are_moved = by (mover e) refl
      where
        p : ℕ → Bool
        p t = not (place_home w (now w h) t == place_home w (now w (h ++ entry_as (length h) (desk s).cpu e hints ∷ [])) t)

        list : List ℕ
        list = filter (λ t. not (place_home w (now w h) t == place_home w (now w (h ++ entry_as (length h) (desk s).cpu e hints ∷ [])) t)) (range_with_len 0 (length w.threads))

        plain : list ++ (desk s).stray ≡ list
        plain = ap (λ l. list ++ l) f.settled ∙ append-nil list

        law : (u : ℕ) → p u ≡ true → IsMover e u
        law u on = moves_mover w h entry run_whole u (apart_if (place_home w (now w h) u) (place_home w (now w whole) u) on)

        same_mover : (x : ℕ) (u : ThreadId) → mover e ≡ Some u → IsMover e x → x ≡ u.0
        same_mover x u on m = let z : Some m.0 ≡ Some u = sym m.1 ∙ on in let same : m.0 ≡ u = cc in sym m.2 ∙ ap (λ (y : ThreadId). y.0) same

        none : mover e ≡ None → (u : ℕ) → (b : Bool) → p u ≡ b → p u ≡ false
        none off u true on = absurd (none_some (mover e) ((law u on).0) off (law u on).1)
        none off u false q = q

        by : (o : Option ThreadId) → mover e ≡ o → MatchOption o (list ++ (desk s).stray ≡ []) (λ u. IsMoved u.0 s1.acting (list ++ (desk s).stray))
        by None off = plain ∙ none_from p 0 (length w.threads) (λ u l. none off u (p u) refl)
        by (Some u) on = ⊎_elim
            (λ q. inl (plain ∙ q))
            (λ (q : (filter p (range_with_len 0 (length w.threads)) ≡ u.0 ∷ []) × (p u.0 ≡ true) × (u.0 < 0 + length w.threads)).
            inr (plain ∙ q.0, moved_in u.0 (let z = q.2 in omega (arith, z)) (apart_if (place_home w (now w h) u.0) (place_home w (now w whole) u.0) q.1)))
            (one_from p u.0 0 (length w.threads) (λ x px. same_mover x u on (law x px)))

    pub commits_made : (s2 : Seat) → Publishes s1 s2 → s2.place.table_id ≡ t → Commits (seat_meaning w s) (seat_meaning w s2) n e hints
    commits_made s2 told table2 = record {
      run = h;
      made = record {
        begins = seen.since.begins;
        still = λ q. absurd (false≢true q);
        number = many;
        step = can.makes h (may_stand w t s h f seen);
        log = ap (λ l. l.items) told.log ∙ log;
        after = ([], ap (λ (d : Desk). d.seen) told.desk ∙ (ap (λ m. (desk_of m.0).seen) view ∙ (ap (λ y. h ++ y ∷ []) same_entry ∙ sym (append-nil (h ++ record { number = n; cpu = s.acting.actor.cpu; event = e; hints = hints } ∷ [])))));
        after_still = λ q. absurd (false≢true q);
      };
      quiet = record {
        stops = refl;
        notes = ap (λ (d : Desk). d.counts) told.desk ∙ ap (λ m. (desk_of m.0).counts) view;
        misses = ap (λ (d : Desk). d.misses) told.desk ∙ ap (λ m. (desk_of m.0).misses) view;
      };
      table = ap Some (table2 ∙ sym f.table);
      work = refl;
      alone = refl;
      all = refl;
      cpu = ap (λ (a : Acting). a.actor.cpu) told.acting ∙ cpu;
      held = ap has_part told.acting ∙ has;
      unhinted = λ shared c which k. ap (λ (d : Desk). is_noted d.hints c which k) told.desk ∙ (ap (λ m. is_noted (desk_of m.0).hints c which k) view ∙ none_noted c which k);
    }
