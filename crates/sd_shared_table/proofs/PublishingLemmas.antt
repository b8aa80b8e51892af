-- What a seat publishes after an entry.
use Rattle.std.proofs.Common.{◌≡◌, ℕ, zero, suc, ◌+◌, ◌-◌, ◌<◌, ◌≤◌, ◌⊎◌, Bool, true, false, List, [], ◌∷◌, ◌++◌, append_assoc, length, get_or, reverse, is_some, MatchOption, Option, refl, sym, ap, ◌∙◌, subst, inl, inr, arith}
use Rattle.std.specs.Prelude.{◌&&◌, ◌||◌, ◌==◌}
use Rattle.std.proofs.lemmas.Bool.{cases_lt, false≢true}
use Rattle.std.proofs.lemmas.Bool.Decides.{nat_tests}
use Rattle.std.proofs.lemmas.List.{get_or-reverse, get_or_default, length-reverse}
use Rattle.sd_basics.proofs.Lists.{some_of}
use Rattle.arrayvec.specs.ArrayVec.{ArrayVec}
use Rattle.atomic_table.specs.Seated.{TableId}
use Rattle.atomic_table.specs.Table.{Me}
use Rattle.sd_types.specs.declared.numbers.CpuId.{CpuId}
use Rattle.sd_types.specs.declared.numbers.HomeId.{HomeId}
use Rattle.sd_types.specs.declared.numbers.HomeId.TheVariants as id
use Rattle.sd_types.specs.declared.numbers.ThreadId.{ThreadId}
use Rattle.sd_types.specs.declared.events.Entry.{Entry}
use Rattle.sd_types.specs.declared.events.Event.{Event}
use Rattle.sd_types.specs.declared.works.Work.{Work}
use Rattle.sd_types.specs.declared.events.Which.{Which}
use Rattle.sd_types.specs.declared.events.Which.TheVariants.{Running, Queued}
use Rattle.sd_state.specs.States.{cpu_of}
use Rattle.sd_machine.specs.Hints.{hint_shown}
use Rattle.sd_invariants.proofs.Whole.{fit_reached}
use Rattle.sd_homes.specs.declared.list_id.ListId.{ListId}
use Rattle.sd_homes.specs.Standing.{home_at}
use Rattle.sd_hand.specs.declared.acting.Acting.{Acting}
use Rattle.sd_hand.specs.Hands.{IsHeld, StandsIn, has_thread, held}
use Rattle.sd_hand.proofs.MoveLemmas.{stands_at, stands_held}
use Rattle.sd_world.specs.Homes.{IsNumber, index_of}
use Rattle.sd_world.specs.Plain.{StandsInRun}
use Rattle.sd_world.proofs.NumberLemmas.{same_number}
use Rattle.sd_shared_rule.specs.declared.views.Desk.{Desk}
use Rattle.sd_shared_rule.specs.declared.views.View.{View}
use Rattle.sd_shared_rule.specs.declared.views.View.TheVariants.{Works}
use Rattle.sd_shared_rule.specs.declared.views.Written.{Written}
use Rattle.sd_shared_rule.specs.Movers.{mover}
use Rattle.sd_shared_rule.specs.Places.{holds, now, place_home, sizes, without}
use Rattle.sd_shared_rule.specs.Plays.{Sees, Slot, desk_of, is_written, naming, writing}
use Rattle.sd_shared_rule.specs.Words.{hint_word, tick_word}
use Rattle.sd_shared_rule.proofs.Bridge.{reached}
use Rattle.sd_shared_rule.proofs.Lists.{holds_cons, holds_here}
use Rattle.sd_shared_table.specs.declared.seat.Held.{Held}
use Rattle.sd_shared_table.specs.declared.seat.Seat.{Seat}
use Rattle.sd_shared_table.specs.Seats.{AreMoved, AreNumbers, Fits, FitsAs, HasWritten, IsMoved, Publishes, ShowsCount, ShowsHint, ShowsHints, desk, indices, showing}
use Rattle.sd_shared_table.proofs.Fitting.{refits, sees_same, shown_since, without_only}

module _ (w : Work) where
  pub fits_same : (t : TableId) (s s' : Seat) → Fits t w s → HasWritten s s' → Fits t w s'
  fits_same t s s' f same =
      refits w t [] [] (desk s) (showing (desk s) same.more) s s' f (sees_same w t [] (desk s) s f) refl refl f.settled f.counted (same.table ∙ f.table)
      (same.me ∙ ap (λ l. (Works (showing (desk s) same.more), l)) (ap (λ m. m.1) f.view)) same.acting (ap (λ (o : ArrayVec Held). o.items) same.order) (ap (λ l. l.items) same.log)

  pub written_then : (a b c : Seat) → HasWritten a b → HasWritten b c → HasWritten a c
  written_then a b c x y = record {
    more = y.more ++ x.more;
    me = y.me ∙ ap (λ (m : Me Slot View). (Works (showing (desk_of m.0) y.more), m.1)) x.me
        ∙ ap (λ xs. (Works (record (desk a) { written = xs }), a.place.me.1)) (sym (append_assoc y.more x.more (desk a).written));
    table = y.table ∙ x.table;
    acting = y.acting ∙ x.acting;
    order = y.order ∙ x.order;
    log = y.log ∙ x.log;
  }

  -- one number was written
  pub one_written : (s s' : Seat) (x : Written) → s'.place.me ≡ (Works (writing (desk s) x), s.place.me.1) → s'.place.table_id ≡ s.place.table_id → s'.acting ≡ s.acting → s'.order ≡ s.order → s'.log ≡ s.log → HasWritten s s'
  one_written s s' x me table acting order log = record { more = x ∷ []; me = me; table = table; acting = acting; order = order; log = log }

  pub none_written : (t : TableId) (s : Seat) → Fits t w s → HasWritten s s
  none_written t s f = record { more = []; me = λ i. (ap (λ m. m.0) f.view i, s.place.me.1); table = refl; acting = refl; order = refl; log = refl }

  pub published_still : (a b c : Seat) → Publishes a b → HasWritten b c → Publishes a c
  published_still a b c x y =
      let is : desk c ≡ showing (desk b) y.more = ap (λ m. desk_of m.0) y.me in
      record {
        desk = is ∙ (ap (λ (d : Desk). record d { written = y.more ++ (desk b).written }) x.desk ∙ ap (λ (d : Desk). record (desk a) { stray = []; written = d.written }) (sym is));
        acting = y.acting ∙ x.acting;
        log = y.log ∙ x.log;
      }

  module _ (t : TableId) (ts : List ℕ) (s : Seat) (f : FitsAs t w ts (desk s) s) where
    -- nothing was to be published
    pub none_moved : ts ≡ [] → Fits t w s
    none_moved e = subst (λ l. FitsAs t w l (desk s) s) e f

    pub none_published : ts ≡ [] → Publishes s s
    none_published e = record { desk = λ i. record (desk s) { stray = (f.settled ∙ e) i }; acting = refl; log = refl }

    none_there : (u : ℕ) → IsMoved u s.acting ts → has_thread u s.acting.hand.slots ≡ false → ts ≡ []
    none_there u (inl e) lacks = e
    none_there u (inr e) lacks = absurd (false≢true (sym lacks ∙ e.1))

    pub lacks_moved : (u : ℕ) → IsMoved u s.acting ts → has_thread u s.acting.hand.slots ≡ false → Fits t w s
    lacks_moved u is lacks = none_moved (none_there u is lacks)

    pub lacks_published : (u : ℕ) → IsMoved u s.acting ts → has_thread u s.acting.hand.slots ≡ false → Publishes s s
    lacks_published u is lacks = none_published (none_there u is lacks)

    module _ (u : ℕ) (at : ListId) (st : StandsIn u s.acting.hand.slots at) where
      pub home_number : IsNumber (sizes w) (home_at at)
      home_number = f.numbers (home_at at) (stands_held u at s.acting.hand.slots f.shown.apart st)

      pub thread_there : u < length w.threads
      thread_there =
          let is = (stands_at (length (desk s).seen) (now w (desk s).seen) u at s.acting.hand.slots f.shown.apart f.shown.homes st).inside in
          let many = (fit_reached w (length (desk s).seen) (now w (desk s).seen) (reached w (desk s).seen f.run)).fits.threads in
          omega (arith, is, many)

      pub stands_still : (h : List Entry) → Sees w (desk s) h → (place_home w (now w h) u ≡ index_of (sizes w) (home_at at)) × (holds (index_of (sizes w) (home_at at)) (desk s).held ≡ true)
      unfolding place_home
      stands_still h seen =
          let sh = shown_since w t ts (desk s) s h f seen in
          let is = stands_at (length h) (now w h) u at s.acting.hand.slots sh.apart sh.homes st in
          (ap (λ l. index_of (sizes w) (home_at l)) is.list, f.held (home_at at) home_number ∙ ap is_some (stands_held u at s.acting.hand.slots f.shown.apart st).1)

    stray_gone : (u : ℕ) → IsMoved u s.acting ts → without u (desk s).stray ≡ []
    unfolding without
    stray_gone u (inl e) = ap (without u) (f.settled ∙ e)
    stray_gone u (inr e) = ap (without u) (f.settled ∙ e.0) ∙ without_only w u

    pub fits_named : (u : ℕ) (s' : Seat) → IsMoved u s.acting ts → s'.place.table_id ≡ t → s'.place.me ≡ (Works (naming (desk s) u), s.place.me.1) → s'.acting ≡ s.acting → s'.order ≡ s.order → s'.log ≡ s.log → Fits t w s'
    fits_named u s' is table view acting order log =
        refits w t ts [] (desk s) (naming (desk s) u) s s' f (sees_same w t ts (desk s) s f) refl refl (stray_gone u is) f.counted table (view ∙ ap (λ l. (Works (naming (desk s) u), l)) (ap (λ m. m.1) f.view)) acting
        (ap (λ (o : ArrayVec Held). o.items) order) (ap (λ l. l.items) log)

    pub named_published : (u : ℕ) (s' : Seat) → IsMoved u s.acting ts → s'.place.me ≡ (Works (naming (desk s) u), s.place.me.1) → s'.acting ≡ s.acting → s'.log ≡ s.log → Publishes s s'
    named_published u s' is view acting log =
        let named = ap (λ m. desk_of m.0) view in
        record { desk = named ∙ (ap (λ l. record (desk s) { stray = l }) (stray_gone u is) ∙ ap (λ (d : Desk). record (desk s) { stray = []; written = d.written }) (sym named)); acting = acting; log = log }

  -- the mover, where there is one
  pub moved_by : (e : Event) (x : Acting) (ts : List ℕ) (o : Option ThreadId) → o ≡ mover e → AreMoved e x ts → MatchOption o (ts ≡ []) (λ u. IsMoved u.0 x ts)
  moved_by e x ts o is moved = subst (λ p. MatchOption p (ts ≡ []) (λ u. IsMoved u.0 x ts)) (sym is) moved

-- Hints.

module _ (w : Work) where
  -- a home of the order is held, and one of the run
  holds_indices : (ys : List Held) (j : ℕ) (d : Held) → j < length ys → holds (index_of (sizes w) (get_or ys j d).0) (indices w ys) ≡ true
  holds_indices [] j d inside = absurd (omega (arith, inside))
  holds_indices (y ∷ ys) zero d inside = holds_here (index_of (sizes w) y.0) (indices w ys)
  holds_indices (y ∷ ys) (suc j) d inside = holds_cons (index_of (sizes w) (get_or ys j d).0) (index_of (sizes w) y.0) (indices w ys) (holds_indices ys j d (omega (arith, inside)))

  number_in : (ys : List Held) (j : ℕ) (d : Held) → j < length ys → AreNumbers w ys → IsNumber (sizes w) (get_or ys j d).0
  number_in [] j d inside are = absurd (omega (arith, inside))
  number_in (y ∷ ys) zero d inside are = are.0
  number_in (y ∷ ys) (suc j) d inside are = number_in ys j d (omega (arith, inside)) are.1

  pub order_held : (t : TableId) (s : Seat) → Fits t w s → (i : ℕ) (d : Held) → i < length s.order.items → IsHeld (get_or s.order.items i d).0 s.acting.hand.slots
  order_held t s f i d inside =
      let xs = s.order.items in
      let j = length xs - 1 - i in
      let below : j < length xs = omega (arith, inside) in
      let same : get_or (reverse xs) j d ≡ get_or xs i d = get_or-reverse xs j d below ∙ ap (λ m. get_or xs m d) (let e : length xs - 1 - j ≡ i = omega (arith, inside) in e) in
      let long : j < length (reverse xs) = (let e = length-reverse xs in omega (arith, below, e)) in
      let k = (get_or xs i d).0 in
      let number : IsNumber (sizes w) k = subst (λ (h : Held). IsNumber (sizes w) h.0) same (number_in (reverse xs) j d long f.each) in
      let here : holds (index_of (sizes w) k) (desk s).held ≡ true = ap (holds (index_of (sizes w) k)) f.order ∙ subst (λ (h : Held). holds (index_of (sizes w) h.0) (indices w (reverse xs)) ≡ true) same (holds_indices (reverse xs) j d long) in
      some_of (held k s.acting.hand.slots) (sym (f.held k number) ∙ here)

  pub in_run : (t : TableId) (s : Seat) → Fits t w s → StandsInRun s.acting
  in_run t s f = record { work = w; number = length (desk s).seen; state = now w (desk s).seen; reached = reached w (desk s).seen f.run; shown = f.shown }

  pub cpu_inside : (t : TableId) (s : Seat) (c : CpuId) → Fits t w s → IsHeld (id.Cpu c) s.acting.hand.slots → c.0 < w.cpus
  cpu_inside t s c f is = f.numbers (id.Cpu c) is

  pub held_still : (s s' : Seat) (k : HomeId) → HasWritten s s' → IsHeld k s.acting.hand.slots → IsHeld k s'.acting.hand.slots
  held_still s s' k same is = subst (λ (a : Acting). IsHeld k a.hand.slots) (sym same.acting) is

  -- each home that is held is one of the order
  in_indices : (ys : List Held) (k : HomeId) → IsNumber (sizes w) k → AreNumbers w ys → holds (index_of (sizes w) k) (indices w ys) ≡ true → (j : ℕ) × (j < length ys) × ((d : Held) → (get_or ys j d).0 ≡ k)
  unfolding holds
  in_indices [] k number are e = absurd (false≢true e)
  in_indices (y ∷ ys) k number are e = by (index_of (sizes w) y.0 == index_of (sizes w) k) refl (in_indices ys k number are.1)
    where
      by : (b : Bool) → (index_of (sizes w) y.0 == index_of (sizes w) k) ≡ b
          → (holds (index_of (sizes w) k) (indices w ys) ≡ true → (j : ℕ) × (j < length ys) × ((d : Held) → (get_or ys j d).0 ≡ k)) → (j : ℕ) × (j < length (y ∷ ys)) × ((d : Held) → (get_or (y ∷ ys) j d).0 ≡ k)
      by true same below = (0, omega arith, λ d. sym (same_number (sizes w) k y.0 number are.0 (grind (arith, nat_tests))))
      by false other below =
          let rest = below (rw other at e) in
          (suc rest.0, (let i = rest.1 in omega (arith, i)), rest.2)

  pub held_order : (t : TableId) (s : Seat) (k : HomeId) → Fits t w s → IsHeld k s.acting.hand.slots → (i : ℕ) × (i < length s.order.items) × ((d : Held) → (get_or s.order.items i d).0 ≡ k)
  held_order t s k f is =
      let xs = s.order.items in
      let here : holds (index_of (sizes w) k) (desk s).held ≡ true = f.held k (f.numbers k is) ∙ ap is_some is.1 in
      let at = in_indices (reverse xs) k (f.numbers k is) f.each (sym (ap (holds (index_of (sizes w) k)) f.order) ∙ here) in
      let long = length-reverse xs in
      let inside : at.0 < length xs = (let e = at.1 in omega (arith, e, long)) in
      let i = length xs - 1 - at.0 in
      (i, omega (arith, inside), λ d. ap (λ (x : Held). x.0) (sym (get_or-reverse xs at.0 d inside)) ∙ at.2 d)

  -- Numbers that were written.

  written_more : (more xs : List Written) (i n : ℕ) → is_written xs i n ≡ true → is_written (more ++ xs) i n ≡ true
  unfolding is_written
  written_more [] xs i n e = e
  written_more (x ∷ more) xs i n e = let rest = written_more more xs i n e in by ((x.word == i) && (x.number == n)) rest
    where
      by : (b : Bool) → is_written (more ++ xs) i n ≡ true → (b || is_written (more ++ xs) i n) ≡ true
      by true r = refl
      by false r = r

  written_here : (xs : List Written) (i n : ℕ) → is_written (record { word = i; number = n } ∷ xs) i n ≡ true
  unfolding is_written
  written_here xs i n = grind (arith, nat_tests)

  sees_written : (s s' : Seat) (h : List Entry) → HasWritten s s' → Sees w (desk s') h → Sees w (desk s) h
  sees_written s s' h is seen =
      let x : Sees w (showing (desk s) is.more) h = subst (λ d. Sees w d h) (ap (λ m. desk_of m.0) is.me) seen in
      record { run = x.run; since = x.since }

  written_is : (s s' : Seat) (is : HasWritten s s') → (desk s').written ≡ is.more ++ (desk s).written
  written_is s s' is = ap (λ (m : Me Slot View). (desk_of m.0).written) is.me

  pub hint_still : (s s' : Seat) (c : CpuId) (which : Which) → HasWritten s s' → ShowsHint w s c which → ShowsHint w s' c which
  hint_still s s' c which is shows h seen =
      subst (λ xs. is_written xs (hint_word w c.0 which) (hint_shown (now w h) which c) ≡ true) (sym (written_is s s' is))
      (written_more is.more (desk s).written (hint_word w c.0 which) (hint_shown (now w h) which c) (shows h (sees_written s s' h is seen)))

  pub hints_still : (s s' : Seat) (k : HomeId) → HasWritten s s' → ShowsHints w s k → ShowsHints w s' k
  hints_still s s' (id.Cpu c) is shows = λ which. hint_still s s' c which is (shows which)
  hints_still s s' (id.RealTime p) is shows = tt
  hints_still s s' (id.Chain i) is shows = tt
  hints_still s s' (id.Sleepers i) is shows = tt

  -- the hint that was just written
  pub hint_written : (s s' : Seat) (c : CpuId) (which : Which) (n : ℕ) → ((h : List Entry) → Sees w (desk s) h → n ≡ hint_shown (now w h) which c)
      → s'.place.me ≡ (Works (writing (desk s) (record { word = hint_word w c.0 which; number = n })), s.place.me.1) → ShowsHint w s' c which
  hint_written s s' c which n is me h seen =
      let d : desk s' ≡ writing (desk s) (record { word = hint_word w c.0 which; number = n }) = ap (λ (m : Me Slot View). desk_of m.0) me in
      let x : Sees w (writing (desk s) (record { word = hint_word w c.0 which; number = n })) h = subst (λ e. Sees w e h) d seen in
      subst (λ e. is_written e.written (hint_word w c.0 which) (hint_shown (now w h) which c) ≡ true) (sym d)
      (subst (λ m. is_written (record { word = hint_word w c.0 which; number = n } ∷ (desk s).written) (hint_word w c.0 which) m ≡ true) (is h (record { run = x.run; since = x.since }))
      (written_here (desk s).written (hint_word w c.0 which) n))

  -- and the own count
  pub count_written : (s s' : Seat) (n : ℕ) → ((h : List Entry) → Sees w (desk s) h → n ≡ (cpu_of (now w h) (desk s).cpu).count)
      → s'.place.me ≡ (Works (writing (desk s) (record { word = tick_word w (desk s).cpu; number = n })), s.place.me.1) → ShowsCount w s'
  count_written s s' n is me =
      let d : desk s' ≡ writing (desk s) (record { word = tick_word w (desk s).cpu; number = n }) = ap (λ (m : Me Slot View). desk_of m.0) me in
      subst (λ e. (h : List Entry) → Sees w e h → is_written e.written (tick_word w e.cpu) (cpu_of (now w h) e.cpu).count ≡ true) (sym d)
      (λ h x. subst (λ m. is_written (record { word = tick_word w (desk s).cpu; number = n } ∷ (desk s).written) (tick_word w (desk s).cpu) m ≡ true) (is h (record { run = x.run; since = x.since }))
      (written_here (desk s).written (tick_word w (desk s).cpu) n))

  pub own_written : (t : TableId) (s s' : Seat) (n : ℕ) → Fits t w s → n ≡ s.acting.actor.count
      → s'.place.me ≡ (Works (writing (desk s) (record { word = tick_word w s.acting.actor.cpu.0; number = n })), s.place.me.1) → ShowsCount w s'
  own_written t s s' n f own me =
      count_written s s' n (λ h seen. own ∙ ((shown_since w t [] (desk s) s h f seen).count ∙ ap (λ c. (cpu_of (now w h) c).count) (sym f.cpu)))
      (me ∙ ap (λ c. (Works (writing (desk s) (record { word = tick_word w c; number = n })), s.place.me.1)) (sym f.cpu))

  pub held_before : (s s' : Seat) (k : HomeId) → HasWritten s s' → IsHeld k s'.acting.hand.slots → IsHeld k s.acting.hand.slots
  held_before s s' k same is = subst (λ (a : Acting). IsHeld k a.hand.slots) same.acting is

  -- so far: the hints of the first homes of the order are written
  pub record Showing (t : TableId) (first s : Seat) (i : ℕ) : Type 0 where
    pub fits : Fits t w s
    pub written : HasWritten first s
    pub shows : (j : ℕ) (d : Held) → j < i → ShowsHints w s (get_or s.order.items j d).0

  pub all_shown : (t : TableId) (s : Seat) → Fits t w s → ((j : ℕ) (d : Held) → j < length s.order.items → ShowsHints w s (get_or s.order.items j d).0) → (k : HomeId) → IsHeld k s.acting.hand.slots → ShowsHints w s k
  all_shown t s f shows k is =
      let at = held_order t s k f is in
      let d : Held = record { 0 = k } in
      subst (ShowsHints w s) (at.2 d) (shows at.0 d at.1)

  pub both_shown : (s : Seat) (c : CpuId) → ShowsHint w s c Running → ShowsHint w s c Queued → ShowsHints w s (id.Cpu c)
  both_shown s c x y Running = x
  both_shown s c x y Queued = y

  pub none_shown : (t : TableId) (s : Seat) → Fits t w s → Showing t s s 0
  none_shown t s f = record { fits = f; written = none_written w t s f; shows = λ j d below. absurd (omega (arith, below)) }

  pub one_shown : (t : TableId) (first s s' : Seat) (i : ℕ) → Showing t first s i → i < length s.order.items → Fits t w s' → HasWritten s s' → (z : Held) → ShowsHints w s' (get_or s.order.items i z).0 → Showing t first s' (i + 1)
  one_shown t first s s' i so_far inside f is z here = record {
    fits = f;
    written = written_then w first s s' so_far.written is;
    shows = λ j d below. at j d below (cases_lt j i);
  }
    where
      same_order : s'.order.items ≡ s.order.items
      same_order = ap (λ (o : ArrayVec Held). o.items) is.order

      at : (j : ℕ) (d : Held) → j < i + 1 → (j < i) ⊎ (i ≤ j) → ShowsHints w s' (get_or s'.order.items j d).0
      at j d below (inl less) = subst (λ xs. ShowsHints w s' (get_or xs j d).0) (sym same_order) (hints_still s s' (get_or s.order.items j d).0 is (so_far.shows j d less))
      at j d below (inr most) =
          let same : i ≡ j = omega (arith, below, most) in
          subst (λ xs. ShowsHints w s' (get_or xs j d).0) (sym same_order)
          (subst (λ k. ShowsHints w s' (get_or s.order.items k d).0) same (subst (λ (x : Held). ShowsHints w s' x.0) (get_or_default s.order.items i z d inside) here))
