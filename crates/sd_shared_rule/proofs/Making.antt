-- The table at the start, seats that are made and gathered, and the table at the end.
use Rattle.std.proofs.Common.{◌≡◌, ◌≢◌, ◌⊎◌, ℕ, zero, suc, ◌+◌, ◌^◌, ◌<◌, ◌≤◌, Bool, true, false, eqb, List, [], ◌∷◌, ◌++◌, length, set, map, Some, refl, sym, ap, ◌∙◌, subst, inl, inr, ⊎_elim, arith, length-set, length-append, append-nil}
use Rattle.std.specs.Prelude.{slice_index, slice_index_or}
use Rattle.std.proofs.lemmas.Bool.{cases_eq, false≢true}
use Rattle.std.proofs.lemmas.Bool.Decides.{nat_tests}
use mathlib.Core.Option as M
use lib.ListN.{get_elem?}
use Rattle.atomic_table.specs.Table.{Splits, Joins, Enters, Final, Seen}
use Rattle.atomic_table.proofs.Lists.{at_set}
use Rattle.sd_types.specs.declared.events.Entry.{Entry}
use Rattle.sd_types.specs.declared.works.Work.{Work}
use Rattle.sd_state.specs.States.{cpu_of}
use Rattle.sd_state.specs.Opening.{opening}
use Rattle.sd_machine.specs.Runs.{IsRun}
use Rattle.sd_machine.proofs.RunLemmas.{IsRun-nil, IsRunFrom-front, IsRun-from, from-IsRun}
use Rattle.sd_homes.specs.declared.home.Home.{Home}
use Rattle.sd_shared_rule.specs.declared.views.Desk.{Desk}
use Rattle.sd_shared_rule.specs.declared.views.View.{View}
use Rattle.sd_shared_rule.specs.declared.views.View.TheVariants.{Maker, Works, Gathers, Spent}
use Rattle.sd_types.specs.Limits.{most_entries}
use Rattle.sd_shared_rule.specs.Ledgers.{NamedBy, Since, by}
use Rattle.sd_shared_rule.specs.Places.{Stands, holds, home_count, now, place_home}
use Rattle.sd_shared_rule.specs.Rule.{Ledger, AtHome, Desked, Gathered, Knows, Kept}
use Rattle.sd_shared_rule.specs.Plays.{Slot, new_desk}
use Rattle.sd_shared_rule.specs.Words.{hint_at, lock_of, put, tick_of, word_count, word_of}
use Rattle.sd_shared_rule.proofs.Bridge.{place_in}
use Rattle.sd_shared_rule.proofs.Lists.{put_here, put_else, holds-nil, by-nil}
use Rattle.sd_shared_rule.proofs.Since.{since_same, since_fewer, since_other}
use Rattle.sd_shared_rule.proofs.Seats.{seats}

cons_ne : {A : Type 0} (x : A) (xs : List A) → x ∷ xs ≡ [] → ⊥
cons_ne x xs e = absurd (cc)

-- what stands in a list with one more: at its end, or before
at_end : {A : Type 0} (l : List A) (a b : A) (j : ℕ) → get_elem? (l ++ a ∷ []) j ≡ M.some b → (get_elem? l j ≡ M.some b) ⊎ ((j ≡ length l) × (a ≡ b))
at_end [] a b zero e = inr (refl, M.some-injective a b e)
at_end [] a b (suc j) e = absurd (M.some-ne-none b (sym e))
at_end (x ∷ xs) a b zero e = inl e
at_end (x ∷ xs) a b (suc j) e = ⊎_elim (λ h. inl h) (λ (h : (j ≡ length xs) × (a ≡ b)). inr (ap suc h.0, h.1)) (at_end xs a b j e)

-- an entry of the processor is one of its entries
some_by : (c : ℕ) (done : List Entry) (e : Entry) (es : List Entry) → e.cpu.0 ≡ c → by c (done ++ e ∷ es) ≡ [] → ⊥
unfolding by
some_by c [] e es is none = absurd (let t : eqb e.cpu.0 c ≡ true = grind (arith, nat_tests) in cons_ne e _ (sym (ap (λ b. Rattle.std.proofs.Common.cond b (e ∷ Rattle.std.proofs.Common.filter (λ (y : Entry). eqb y.cpu.0 c) es) (Rattle.std.proofs.Common.filter (λ (y : Entry). eqb y.cpu.0 c) es)) t) ∙ none))
some_by c (x ∷ xs) e es is none = at (eqb x.cpu.0 c) none (some_by c xs e es is)
  where
    rest : List Entry
    rest = Rattle.std.proofs.Common.filter (λ (y : Entry). eqb y.cpu.0 c) (xs ++ e ∷ es)

    at : (b : Bool) → Rattle.std.proofs.Common.cond b (x ∷ rest) rest ≡ [] → (rest ≡ [] → ⊥) → ⊥
    at true q r = cons_ne x rest q
    at false q r = r q

-- the last list, and an earlier one
last_seen : (seens : List (List Entry)) (x : List Entry) (c : ℕ) → c ≡ length seens → slice_index_or (seens ++ x ∷ []) c [] ≡ x
last_seen [] x zero e = refl
last_seen [] x (suc c) e = absurd (omega arith)
last_seen (y ∷ ys) x zero e = absurd (omega arith)
last_seen (y ∷ ys) x (suc c) e = last_seen ys x c (omega arith)

early_seen : (seens : List (List Entry)) (x : List Entry) (c : ℕ) → c < length seens → slice_index_or (seens ++ x ∷ []) c [] ≡ slice_index_or seens c []
early_seen [] x c i = absurd (omega arith)
early_seen (y ∷ ys) x zero i = refl
early_seen (y ∷ ys) x (suc c) i = early_seen ys x c (omega arith)

module _ (w : Work) where
  -- a processor that has made no entry is as at the start
  idle_since : (c : ℕ) (done rest : List Entry) → IsRun w (done ++ rest) → by c (done ++ rest) ≡ [] → Since w c [] [] done → Since w c [] [] (done ++ rest)
  idle_since c done [] run none s = subst (Since w c [] []) (sym (append-nil done)) s
  idle_since c done (e ∷ es) run none s =
      let split : (done ++ e ∷ []) ++ es ≡ done ++ e ∷ es = Rattle.std.proofs.Common.append_assoc done (e ∷ []) es in
      let first = from-IsRun w (done ++ e ∷ []) (IsRunFrom-front w (opening w) 0 (done ++ e ∷ []) es (IsRun-from w ((done ++ e ∷ []) ++ es) (subst (IsRun w) (sym split) run))) in
      let ne : c ≢ e.cpu.0 = λ q. some_by c done e es (sym q) none in
      subst (Since w c [] []) split
      (idle_since c (done ++ e ∷ []) es (subst (IsRun w) (sym split) run) (ap (by c) split ∙ none)
      (since_other w c [] [] done e first ne (λ k h. absurd (false≢true (sym (holds-nil k) ∙ h))) s))

  pub never : (c : ℕ) (h : List Entry) → IsRun w h → by c h ≡ [] → Since w c [] [] h
  never c h run none = idle_since c [] h run none (since_same w c [] [])

  -- the table at the start: no lock, no stamp, the words of the threads as at the opening
  pub opens : (ws : List ℕ) (xs : List Slot) → length ws ≡ word_count w → length xs ≡ home_count w
      → ((k : ℕ) → lock_of w ws k ≡ 0) → slice_index ws (home_count w) ≡ 0 → ((t : ℕ) → t < length w.threads → word_of w ws t ≡ place_home w (now w []) t) → ((c : ℕ) → tick_of w ws c ≡ 0) → ((i : ℕ) → hint_at w ws i < 2 ^ 8)
      → ((k : ℕ) → k < home_count w → (x : Home) × (get_elem? (map M.some xs) k ≡ M.some (M.some (Some x))) × Stands w k [] x)
      → length (map (λ (x : Slot). M.some x) xs) ≡ home_count w
      → Kept w (Rattle.atomic_table.specs.Table.opening ws xs (Maker 0))
  opens ws xs wide deep locks stamp words ticks small homes deep' = record {
    ledger = l;
    wide = wide;
    deep = deep';
    story = record { run = IsRun-nil w; stamp = stamp; few = λ c. subst (λ x. length x ≤ most_entries) (sym (by-nil c)) (omega arith); some_made = (omega arith); unmade = λ c i. (by-nil c, refl, refl); stay = λ c g. refl };
    each_home = λ k i. subst (AtHome w l (map M.some xs) k) (sym (locks k)) (homes k i);
    named = record {
      each = λ t i. subst (λ n. NamedBy w (now w []) (lock_of w ws) (word_of w ws) l.stray t n) (sym (locks (place_home w (now w []) t))) (words t i);
      inside = λ t i. subst (λ n. n < home_count w) (sym (words t i)) (place_in w [] (IsRun-nil w) t);
      stand = λ c t h. absurd (false≢true (sym (holds-nil t) ∙ h));
    };
    ticks = λ c. subst (λ n. n ≤ (cpu_of (now w []) c).count) (sym (ticks c)) (omega arith);
    small = small;
    each_seat = one;
  }
    where
      l : Ledger
      l = record { history = []; made = 0; seat = λ _. 0; gone = λ _. false; stray = λ _. [] }

      one : (j : ℕ) (v : View) → get_elem? (Maker 0 ∷ []) j ≡ M.some v → Knows w l (lock_of w ws) j v
      one zero v e = subst (Knows w l (lock_of w ws) 0) (M.some-injective (Maker 0) v e) (refl, refl)
      one (suc j) v e = absurd (M.some-ne-none v (sym e))

  -- one seat more
  pub seat_made : (id n : ℕ) → n < w.cpus → Splits (Kept w) id (Maker n) (Maker (n + 1)) (Works (new_desk n))
  seat_made id n i s kept at = record {
    ledger = l';
    wide = kept.wide;
    deep = kept.deep;
    story = record { run = kept.story.run; stamp = kept.story.stamp; few = kept.story.few; some_made = (omega arith); unmade = λ c r. kept.story.unmade c (let z = mine.0 in omega arith); stay = kept.story.stay };
    each_home = λ k r. at_home k (lock k) (kept.each_home k r);
    named = kept.named;
    ticks = kept.ticks;
    small = kept.small;
    each_seat = λ j v e. ⊎_elim
        (λ (h : get_elem? (set s.views id (Maker (n + 1))) j ≡ M.some v). seats (Knows w l' lock) s.views id (Maker (n + 1)) (refl, mine.1) (λ k u apart there. other k u apart (kept.each_seat k u there)) j v h)
        (λ (h : (j ≡ length (set s.views id (Maker (n + 1)))) × (Works (new_desk n) ≡ v)). subst (λ (p : ℕ × View). Knows w l' lock p.0 p.1) (λ z. (sym (h.0 ∙ length-set s.views id (Maker (n + 1))) z, h.1 z)) new)
        (at_end (set s.views id (Maker (n + 1))) (Works (new_desk n)) v j e);
  }
    where
      lock : ℕ → ℕ
      lock = lock_of w s.words

      mine : (n ≡ kept.ledger.made) × (id ≡ 0)
      mine = kept.each_seat id (Maker n) at

      l' : Ledger
      l' = record { history = kept.ledger.history; made = n + 1; seat = put kept.ledger.seat n (length s.views); gone = kept.ledger.gone; stray = kept.ledger.stray }

      fresh : (by n kept.ledger.history ≡ []) × (kept.ledger.gone n ≡ false) × (kept.ledger.stray n ≡ [])
      fresh = kept.story.unmade n (let z = mine.0 in omega arith)

      at_home : (k m : ℕ) → AtHome w kept.ledger s.homes k m → AtHome w l' s.homes k m
      at_home k zero h = h
      at_home k (suc c) h = ((let z = mine.0 in let y = h.0 in omega arith), h.1)

      no_lock : (k : ℕ) → k < home_count w → (lock_of w s.words k ≡ suc n) → ⊥
      no_lock k r e = held (subst (AtHome w kept.ledger s.homes k) e (kept.each_home k r))
        where
          held : (n < kept.ledger.made) × (kept.ledger.gone n ≡ false) → ⊥
          held h = (let z = mine.0 in let y = h.0 in omega arith)

      new : Knows w l' (lock_of w s.words) (length s.views) (Works (new_desk n))
      new = record {
        made = (omega arith);
        seat = put_here kept.ledger.seat n (length s.views);
        here = fresh.1;
        since = never n kept.ledger.history kept.story.run fresh.0;
        held = λ k r. holds-nil k ∙ sym (let q = no_lock k r in let z : eqb (lock_of w s.words k) (suc n) ≡ false = grind (arith, nat_tests) in z);
        inside = λ k h. absurd (false≢true (sym (holds-nil k) ∙ h));
        apart = tt;
        stray = fresh.2;
        counts = λ m x e. absurd (M.some-ne-none x (sym e));
      }

      other : (k : ℕ) (u : View) → k ≢ id → Knows w kept.ledger (lock_of w s.words) k u → Knows w l' (lock_of w s.words) k u
      other k (Maker m) apart x = absurd (apart (x.1 ∙ sym mine.1))
      other k (Gathers seens) apart x = x
      other k Spent apart x = x
      other k (Works u) apart x = record {
        made = (let z = mine.0 in let y = x.made in omega arith);
        seat = put_else kept.ledger.seat n (length s.views) u.cpu (λ e. (let z = mine.0 in let y = x.made in omega arith)) ∙ x.seat;
        here = x.here;
        since = x.since;
        held = x.held;
        inside = x.inside;
        apart = x.apart;
        stray = x.stray;
        counts = x.counts;
      }

  -- the seat that gathers
  pub sits : (slots i : ℕ) (then : ℕ → View → Type 0) → ((n : ℕ) → then n (Gathers [])) → Enters (Kept w) slots i then
  sits slots i then told s kept deep small = (
    Gathers [],
    record {
      ledger = kept.ledger;
      wide = kept.wide;
      deep = kept.deep;
      story = kept.story;
      each_home = kept.each_home;
      named = kept.named;
      ticks = kept.ticks;
      small = kept.small;
      each_seat = λ j v e. ⊎_elim (λ h. kept.each_seat j v h) (λ (h : (j ≡ length s.views) × (Gathers [] ≡ v)). subst (Knows w kept.ledger (lock_of w s.words) j) h.1 (λ c r. absurd (omega arith))) (at_end s.views (Gathers []) v j e);
    },
    told (slice_index s.words i),
  )

  -- a processor that holds no home and has no stray is gathered
  pub gathers : (id other : ℕ) (seens : List (List Entry)) (d : Desk) → d.cpu ≡ length seens → d.held ≡ [] → d.stray ≡ [] → Joins (Kept w) id (Gathers seens) other (Works d) (Gathers (seens ++ d.seen ∷ [])) Spent
  gathers id other seens d cpu held stray s kept at apart there = record {
    ledger = l';
    wide = kept.wide;
    deep = kept.deep;
    story = record { run = kept.story.run; stamp = kept.story.stamp; few = kept.story.few; some_made = kept.story.some_made; unmade = λ c r. let u = kept.story.unmade c r in (u.0, put_else kept.ledger.gone d.cpu true c (λ e. (let z = theirs.made in omega arith)) ∙ u.1, u.2); stay = stay };
    each_home = λ k r. at_home k r (lock k) refl (kept.each_home k r);
    named = kept.named;
    ticks = kept.ticks;
    small = kept.small;
    each_seat = seats (Knows w l' lock) (set s.views id (Gathers (seens ++ d.seen ∷ []))) other Spent tt
        (λ j u n e. seats (λ i x. i ≢ other → Knows w l' lock i x) s.views id (Gathers (seens ++ d.seen ∷ [])) (λ _. both)
        (λ i x m q away. still i x away (kept.each_seat i x q)) j u e n);
  }
    where
      lock : ℕ → ℕ
      lock = lock_of w s.words

      mine : Gathered w kept.ledger seens
      mine = kept.each_seat id (Gathers seens) at

      theirs : Desked w kept.ledger (lock_of w s.words) other d
      theirs = ⊎_elim (λ (t : (other ≡ id) × (Gathers (seens ++ d.seen ∷ []) ≡ Works d)). absurd (apart t.0)) (λ (t : (other ≢ id) × (get_elem? s.views other ≡ M.some (Works d))). kept.each_seat other (Works d) t.1)
          (at_set s.views id other (Gathers (seens ++ d.seen ∷ [])) (Works d) there)

      l' : Ledger
      l' = record { history = kept.ledger.history; made = kept.ledger.made; seat = kept.ledger.seat; gone = put kept.ledger.gone d.cpu true; stray = kept.ledger.stray }

      gone_more : (c : ℕ) → kept.ledger.gone c ≡ true → put kept.ledger.gone d.cpu true c ≡ true
      gone_more c g = ⊎_elim (λ (e : c ≡ d.cpu). ap (put kept.ledger.gone d.cpu true) e ∙ put_here kept.ledger.gone d.cpu true) (λ (n : c ≢ d.cpu). put_else kept.ledger.gone d.cpu true c n ∙ g) (cases_eq c d.cpu)

      stay : (c : ℕ) → put kept.ledger.gone d.cpu true c ≡ true → kept.ledger.stray c ≡ []
      stay c g = ⊎_elim (λ (e : c ≡ d.cpu). ap kept.ledger.stray e ∙ (theirs.stray ∙ stray)) (λ (n : c ≢ d.cpu). kept.story.stay c (sym (put_else kept.ledger.gone d.cpu true c n) ∙ g)) (cases_eq c d.cpu)

      at_home : (k : ℕ) → k < home_count w → (m : ℕ) → lock_of w s.words k ≡ m → AtHome w kept.ledger s.homes k m → AtHome w l' s.homes k m
      at_home k r zero e h = h
      at_home k r (suc c) e h = (h.0, put_else kept.ledger.gone d.cpu true c (λ q. false≢true (sym (ap (holds k) held ∙ holds-nil k) ∙ (theirs.held k r ∙ (let y : lock_of w s.words k ≡ suc d.cpu = e ∙ ap suc q in let z : eqb (lock_of w s.words k) (suc d.cpu) ≡ true = grind (arith, nat_tests) in z)))) ∙ h.1)

      both : Gathered w l' (seens ++ d.seen ∷ [])
      both c r = ⊎_elim
          (λ (e : c ≡ d.cpu). (
            ap (put kept.ledger.gone d.cpu true) e ∙ put_here kept.ledger.gone d.cpu true,
            subst (λ x. Since w c [] x kept.ledger.history) (sym (last_seen seens d.seen c (e ∙ cpu)))
                (subst (λ x. Since w x [] d.seen kept.ledger.history) (sym e) (since_fewer w d.cpu d.held [] d.seen kept.ledger.history (λ k h. absurd (false≢true (sym (holds-nil k) ∙ h))) theirs.since)),
          ))
          (λ (n : c ≢ d.cpu). let i : c < length seens = (let z = length-append seens (d.seen ∷ []) in let m : c ≢ length seens = (λ q. n (q ∙ sym cpu)) in omega (arith, z)) in let x = mine c i in (gone_more c x.0, subst (λ y. Since w c [] y kept.ledger.history) (sym (early_seen seens d.seen c i)) x.1))
          (cases_eq c d.cpu)

      still : (i : ℕ) (x : View) → i ≢ other → Knows w kept.ledger (lock_of w s.words) i x → Knows w l' (lock_of w s.words) i x
      still i (Maker m) away k = k
      still i Spent away k = k
      still i (Gathers more) away k = λ c r. let y = k c r in (gone_more c y.0, y.1)
      still i (Works u) away k = record {
        made = k.made;
        seat = k.seat;
        here = put_else kept.ledger.gone d.cpu true u.cpu (λ e. away (sym k.seat ∙ (ap kept.ledger.seat e ∙ theirs.seat))) ∙ k.here;
        since = k.since;
        held = k.held;
        inside = k.inside;
        apart = k.apart;
        stray = k.stray;
        counts = k.counts;
      }

  -- the table at the end, where all were gathered: each home stands for the state of the whole run
  pub closes : (id : ℕ) (seens : List (List Entry)) (ws : List ℕ) (xs : List Slot) → length seens ≡ w.cpus → Final (Seen (Kept w) id (Gathers seens)) ws xs
      → (h : List Entry) × IsRun w h × (slice_index ws (home_count w) ≡ length h) × ((k : ℕ) → k < home_count w → (x : Home) × (get_elem? xs k ≡ M.some (Some x)) × Stands w k h x)
      × ((c : ℕ) → c < w.cpus → Since w c [] (slice_index_or seens c []) h)
  closes id seens ws xs all (s, seen, words, many, at_home) =
      let kept = seen.0 in
      let mine = kept.each_seat id (Gathers seens) seen.1 in (
        kept.ledger.history,
        kept.story.run,
        subst (λ l. slice_index l (home_count w) ≡ length kept.ledger.history) words kept.story.stamp,
        (λ k r. home kept mine k r (lock_of w s.words k) (kept.each_home k r)),
        (λ c r. (mine c (omega arith)).1),
      )
    where
      home : (kept : Kept w s) → Gathered w kept.ledger seens → (k : ℕ) → k < home_count w → (m : ℕ) → AtHome w kept.ledger s.homes k m → (x : Home) × (get_elem? xs k ≡ M.some (Some x)) × Stands w k kept.ledger.history x
      home kept mine k r zero h = (h.0, at_home k (Some h.0) h.1, h.2)
      home kept mine k r (suc c) h = absurd (false≢true (sym h.1 ∙ (mine c (let z = h.0 in let y = kept.story.some_made in omega arith)).0))
