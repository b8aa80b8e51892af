-- The step of a commit.
use Rattle.std.proofs.Common.{◌≡◌, ◌≢◌, ◌⊎◌, ℕ, zero, suc, ◌+◌, ◌*◌, ◌%◌, ◌^◌, ◌<◌, ◌≤◌, Bool, true, false, List, [], ◌∷◌, ◌++◌, length, set, filter, Option, Some, refl, sym, ap, ◌∙◌, subst, inl, ⊎_elim, arith, length-set, length-append}
use Rattle.std.specs.Prelude.{not, ◌&&◌, ◌||◌, ◌==◌}
use Rattle.std.specs.List.{range_with_len}
use Rattle.std.proofs.lemmas.Bool.{cases_eq, false≢true, and_parts, or_cases, or_parts}
use Rattle.std.proofs.lemmas.Bool.Decides.{nat_tests}
use Rattle.std.proofs.Math.Nat.{mod-eq_of_lt}
use mathlib.Core.Option as M
use lib.ListN.{get_elem?}
use Rattle.atomic_table.specs.Table.{step, Me, keeps, Allows}
use Rattle.sd_types.specs.Partitions.{cpu_of_number}
use Rattle.sd_types.specs.declared.events.Event.{Event}
use Rattle.sd_types.specs.declared.events.Hints.{Hints}
use Rattle.sd_types.specs.declared.events.Entry.{Entry}
use Rattle.sd_types.specs.declared.works.Work.{Work}
use Rattle.sd_state.specs.declared.states.State.{State}
use Rattle.sd_state.specs.States.{cpu_of}
use Rattle.sd_state.specs.Opening.{opening}
use Rattle.sd_machine.specs.Events.{next}
use Rattle.sd_machine.specs.Runs.{IsRun}
use Rattle.sd_machine.proofs.RunLemmas.{IsRunFrom-push, IsRun-from, from-IsRun}
use Rattle.sd_shared_rule.specs.declared.views.Desk.{Desk}
use Rattle.sd_shared_rule.specs.declared.views.View.{View}
use Rattle.sd_shared_rule.specs.declared.views.View.TheVariants.{Works}
use Rattle.sd_types.specs.Limits.{most_entries}
use Rattle.sd_shared_rule.specs.Ledgers.{Named, by}
use Rattle.sd_shared_rule.specs.Places.{Touches, holds, home_count, moved, now, place_home}
use Rattle.sd_shared_rule.specs.Rule.{Ledger, AtHome, Desked, Knows, Kept}
use Rattle.sd_shared_rule.specs.Plays.{Committed, MayCommit, Sees, Slot, committing, entry_as}
use Rattle.sd_shared_rule.specs.Words.{lock_of, word_of}
use Rattle.sd_shared_rule.proofs.Bridge.{frame, moves, rises}
use Rattle.sd_shared_rule.proofs.Lists.{put_here, put_else, by_mine, by_else}
use Rattle.sd_shared_rule.proofs.Words as W
use Rattle.sd_shared_rule.proofs.Board.{hint_kept, lock_kept, stamp_set, tick_else, word_kept}
use Rattle.sd_shared_rule.proofs.Since.{since_same}
use Rattle.sd_shared_rule.proofs.Length.{run_bound}
use Rattle.sd_shared_rule.proofs.Seats.{entry_else, seats, with_entry}
use Rattle.sd_shared_rule.proofs.Steps.{TS, desk_at, other_cpu, held_lock, sees}

-- a run with one entry more
pub run_push : (w : Work) (h : List Entry) (e : Entry) → IsRun w h → e.number ≡ length h → next w (now w h) e.cpu e.hints ≡ Some e.event → IsRun w (h ++ e ∷ [])
run_push w h e run number step = from-IsRun w (h ++ e ∷ []) (IsRunFrom-push w (opening w) 0 h e (IsRun-from w h run) (let z : e.number ≡ 0 + length h = omega arith in z) step)

holds-filter : (p : ℕ → Bool) (xs : List ℕ) (t : ℕ) → holds t (filter p xs) ≡ (holds t xs && p t)
unfolding holds
holds-filter p [] t = refl
holds-filter p (x ∷ xs) t = let r = holds-filter p xs t in ⊎_elim (λ (e : x ≡ t). grind (arith, nat_tests)) (λ (n : x ≢ t). grind (arith, nat_tests)) (cases_eq x t)

holds-range : (a n t : ℕ) → a ≤ t → t < a + n → holds t (range_with_len a n) ≡ true
unfolding holds
holds-range a zero t l u = absurd (omega arith)
holds-range a (suc n) t l u = ⊎_elim (λ (e : a ≡ t). grind (arith, nat_tests)) (λ (m : a ≢ t). let r = holds-range (a + 1) n t (omega arith) (omega arith) in grind (arith, nat_tests)) (cases_eq a t)

range-holds : (a n t : ℕ) → holds t (range_with_len a n) ≡ true → t < a + n
unfolding holds
range-holds a zero t h = absurd (cc)
range-holds a (suc n) t h = ⊎_elim (λ (e : a ≡ t). omega arith) (λ (m : a ≢ t). let r = range-holds (a + 1) n t (let z : holds t (range_with_len (a + 1) n) ≡ true = grind (arith, nat_tests) in z) in omega arith) (cases_eq a t)

holds-append : (xs ys : List ℕ) (t : ℕ) → holds t (xs ++ ys) ≡ (holds t xs || holds t ys)
unfolding holds
holds-append [] ys t = refl
holds-append (x ∷ xs) ys t = let r = holds-append xs ys t in grind (arith, nat_tests)

holds-moved : (w : Work) (s new : State) (t : ℕ) → holds t (moved w s new) ≡ (holds t (range_with_len 0 (length w.threads)) && not (place_home w s t == place_home w new t))
unfolding moved
holds-moved w s new t = holds-filter (λ t. not (place_home w s t == place_home w new t)) (range_with_len 0 (length w.threads)) t

not_apart : (a b : ℕ) → not (a == b) ≡ false → a ≡ b
not_apart a b e = grind (arith, nat_tests)

pub apart_if : (a b : ℕ) → not (a == b) ≡ true → a ≢ b
apart_if a b e same = let q : (a == b) ≡ true = grind (arith, nat_tests) in absurd (false≢true (sym (ap not q) ∙ e))

small_run : (n c : ℕ) → c ≤ 64 → n ≤ c * most_entries → n + 1 < 2 ^ 64
small_run n c few many = omega arith

small_number : (n c : ℕ) → c ≤ 64 → n ≤ c * most_entries → n < 2 ^ 48
small_number n c few many = omega arith

module _ (w : Work) where
  committed : (s : TS) (kept : Kept w s) (id : ℕ) (d : Desk) (ev : Event) (hints : Option Hints) → get_elem? s.views id ≡ M.some (Works d)
      → IsRun w (kept.ledger.history ++ entry_as (length kept.ledger.history) d.cpu ev hints ∷ [])
      → ((k : ℕ) → Touches w (now w kept.ledger.history) (cpu_of_number d.cpu) ev k → holds k d.held ≡ true)
      → length (by d.cpu kept.ledger.history) < most_entries
      → Kept w (record { words = set s.words (home_count w) (length kept.ledger.history + 1); homes = s.homes; views = set s.views id (Works (committing w d kept.ledger.history ev hints)) })
  committed s kept id d ev hints at run held room = record {
    ledger = l';
    wide = length-set s.words (home_count w) (length h + 1) ∙ kept.wide;
    deep = kept.deep;
    story = record {
      run = run;
      stamp = stamp_set w s.words kept.wide (length h + 1) ∙ (let z : length h + 1 ≡ length (h ++ e ∷ []) = omega (arith, length-append h (e ∷ [])) in z);
      few = λ c. ⊎_elim (λ (q : e.cpu.0 ≡ c). (let m = by_mine c h e q in let r : length (by c h) < most_entries = subst (λ x. length (by x h) < most_entries) q room in subst (λ l. length l ≤ most_entries) (sym m) (omega (arith, length-append (by c h) (e ∷ [])))))
          (λ (n : e.cpu.0 ≢ c). subst (λ l. length l ≤ most_entries) (sym (by_else c h e n)) (kept.story.few c))
          (cases_eq e.cpu.0 c);
      some_made = kept.story.some_made;
      unmade = λ c r. let u = kept.story.unmade c r in let n : c ≢ d.cpu = λ q. (let z = mine.made in omega arith) in (by_else c h e (λ q. n (sym q)) ∙ u.0, u.1, put_else l.stray d.cpu strays c n ∙ u.2);
      stay = λ c g. put_else l.stray d.cpu strays c (λ q. false≢true (sym mine.here ∙ (ap l.gone (sym q) ∙ g))) ∙ kept.story.stay c g;
    };
    each_home = λ k i. subst (λ (f : ℕ → ℕ). AtHome w l' s.homes k (f k)) (sym is) (at_home k i (lock k) refl (kept.each_home k i));
    named = subst (λ f. Named w (now w h') (lock_of w (set s.words (home_count w) (length h + 1))) f l'.stray) (sym (word_kept w s.words kept.wide (home_count w) (length h + 1) (inl (omega arith))))
        (subst (λ f. Named w (now w h') f (word_of w s.words) l'.stray) (sym is)
        (W.commits w (now w h) lock (word_of w s.words) l.stray kept.named (now w h') d.cpu strays goes stays only));
    ticks = λ c. subst (λ n. n ≤ (cpu_of (now w h') c).count) (sym (tick_else w s.words kept.wide (home_count w) (length h + 1) c (λ q. (omega arith)))) (let r = rises w h e run c in let o = kept.ticks c in omega arith);
    small = λ j. subst (λ f. f j < 2 ^ 8) (sym (hint_kept w s.words kept.wide (home_count w) (length h + 1) (inl (omega arith)))) (kept.small j);
    each_seat = seats (Knows w l' (lock_of w (set s.words (home_count w) (length h + 1)))) s.views id (Works (committing w d h ev hints))
        (subst (λ f. Desked w l' f id (committing w d h ev hints)) (sym is) (record {
          made = mine.made;
          seat = mine.seat;
          here = mine.here;
          since = since_same w d.cpu d.held h';
          held = mine.held;
          inside = mine.inside;
          apart = mine.apart;
          stray = put_here l.stray d.cpu strays;
          counts = λ n y r. (let g = rises w h e run y.cpu in let o = mine.counts n y r in omega arith);
        }))
        (λ j u n there. subst (λ f. Knows w l' f j u) (sym is) (entry_else w l lock e strays run mine.here named_mine j u (other_cpu w s kept id d at j u n there) (kept.each_seat j u there)));
  }
    where
      l : Ledger
      l = kept.ledger

      h : List Entry
      h = kept.ledger.history

      e : Entry
      e = entry_as (length kept.ledger.history) d.cpu ev hints

      h' : List Entry
      h' = kept.ledger.history ++ entry_as (length kept.ledger.history) d.cpu ev hints ∷ []

      strays : List ℕ
      strays = moved w (now w kept.ledger.history) (now w (kept.ledger.history ++ entry_as (length kept.ledger.history) d.cpu ev hints ∷ [])) ++ d.stray

      l' : Ledger
      l' = with_entry w kept.ledger (entry_as (length kept.ledger.history) d.cpu ev hints) (moved w (now w kept.ledger.history) (now w (kept.ledger.history ++ entry_as (length kept.ledger.history) d.cpu ev hints ∷ [])) ++ d.stray)

      lock : ℕ → ℕ
      lock = lock_of w s.words

      mine : Desked w kept.ledger (lock_of w s.words) id d
      mine = desk_at w s kept id d at

      is : lock_of w (set s.words (home_count w) (length kept.ledger.history + 1)) ≡ lock_of w s.words
      is = lock_kept w s.words kept.wide (home_count w) (length kept.ledger.history + 1) (omega arith)

      locked : (k : ℕ) → holds k d.held ≡ true → lock_of w s.words k ≡ suc d.cpu
      locked k q = held_lock w kept.ledger (lock_of w s.words) id k d mine (mine.inside k q) q

      named_mine : (k : ℕ) → Touches w (now w kept.ledger.history) (cpu_of_number d.cpu) ev k → (k < home_count w) × (lock_of w s.words k ≡ suc d.cpu)
      named_mine k q = (mine.inside k (held k q), locked k (held k q))

      at_home : (k : ℕ) → k < home_count w → (n : ℕ) → lock_of w s.words k ≡ n → AtHome w kept.ledger s.homes k n → AtHome w l' s.homes k n
      at_home k i zero q x = (x.0, x.1, frame w h e run k x.0 (λ m. (let z : suc d.cpu ≡ 0 = sym (named_mine k m).1 ∙ q in omega arith)) x.2)
      at_home k i (suc c) q x = x

      goes : (t : ℕ) → t < length w.threads → place_home w (now w kept.ledger.history) t ≢ place_home w (now w h') t → (lock_of w s.words (place_home w (now w kept.ledger.history) t) ≡ suc d.cpu) × (lock_of w s.words (place_home w (now w h') t) ≡ suc d.cpu)
      goes t i n = let m = moves w h e run t n in ((named_mine _ m.0).1, (named_mine _ m.1).1)

      stray_is : (t : ℕ) → holds t strays ≡ ((holds t (range_with_len 0 (length w.threads)) && not (place_home w (now w h) t == place_home w (now w h') t)) || holds t d.stray)
      stray_is t = holds-append (moved w (now w h) (now w h')) d.stray t ∙ ap (λ b. b || holds t d.stray) (holds-moved w (now w h) (now w h') t)

      stays : (t : ℕ) → t < length w.threads → holds t strays ≡ false → (place_home w (now w kept.ledger.history) t ≡ place_home w (now w h') t) × (holds t (kept.ledger.stray d.cpu) ≡ false)
      stays t i q =
          let there : holds t (range_with_len 0 (length w.threads)) ≡ true = holds-range 0 (length w.threads) t (omega arith) (omega arith) in
          let p = or_parts _ _ (sym (stray_is t) ∙ q) in
          let same : not (place_home w (now w h) t == place_home w (now w h') t) ≡ false = sym (ap (λ b. b && not (place_home w (now w h) t == place_home w (now w h') t)) there) ∙ p.0 in
          (not_apart (place_home w (now w h) t) (place_home w (now w h') t) same, ap (holds t) mine.stray ∙ p.1)

      only : (t : ℕ) → holds t strays ≡ true → (t < length w.threads) × (lock_of w s.words (place_home w (now w h') t) ≡ suc d.cpu)
      only t q = ⊎_elim (λ p. came t p) (λ p. stayed t p) (or_cases _ _ (sym (stray_is t) ∙ q))
        where
          inside : (t : ℕ) → holds t (range_with_len 0 (length w.threads)) ≡ true → t < length w.threads
          inside t p = let r = range-holds 0 (length w.threads) t p in omega arith

          came : (t : ℕ) → (holds t (range_with_len 0 (length w.threads)) && not (place_home w (now w h) t == place_home w (now w h') t)) ≡ true → (t < length w.threads) × (lock_of w s.words (place_home w (now w h') t) ≡ suc d.cpu)
          came t p =
              let both = and_parts _ _ p in
              let i = inside t both.0 in
              (i, (goes t i (apart_if (place_home w (now w h) t) (place_home w (now w h') t) both.1)).1)

          stayed : (t : ℕ) → holds t d.stray ≡ true → (t < length w.threads) × (lock_of w s.words (place_home w (now w h') t) ≡ suc d.cpu)
          stayed t p =
              let was = kept.named.stand d.cpu t (ap (holds t) mine.stray ∙ p) in (
                was.0,
                ⊎_elim (λ (same : place_home w (now w h) t ≡ place_home w (now w h') t). ap (lock_of w s.words) (sym same) ∙ was.1)
                    (λ (other : place_home w (now w h) t ≢ place_home w (now w h') t). (goes t was.0 other).1)
                    (cases_eq (place_home w (now w h) t) (place_home w (now w h') t)),
              )

  pub commits : (slots id : ℕ) (me : Me Slot View) (d : Desk) (bs : List (ℕ × Slot)) (ev : Event) (hints : Option Hints) → me ≡ (Works d, bs)
      → ((h : List Entry) → Sees w d h → MayCommit w d ev hints h) → length (by d.cpu d.seen) < most_entries
      → Allows (Kept w) slots id me (home_count w) (λ n. (n + 1) % 2 ^ 64) (Committed w ev hints (step slots (home_count w) 1 0 M.none) me)
  commits slots id me d bs ev hints is may room =
      subst (λ m. Allows (Kept w) slots id m (home_count w) (λ n. (n + 1) % 2 ^ 64) (Committed w ev hints (step slots (home_count w) 1 0 M.none) m)) (sym is)
      (λ s kept deep at small.
      let h = kept.ledger.history in
      let mine = desk_at w s kept id d at in
      let stamp = kept.story.stamp in
      let many = run_bound w h most_entries kept.story.run kept.story.few in
      let few = w.most_cpus in
      let seen = sees w s kept id d at in
      let now_may = may h seen in
      let run = run_push w h (entry_as (length h) d.cpu ev hints) kept.story.run refl now_may.step in
      let fits : (length h + 1) % 2 ^ 64 ≡ length h + 1 = mod-eq_of_lt (small_run (length h) w.cpus few many) in (
        Works (committing w d h ev hints),
        keeps,
        tt,
        subst (λ x. Kept w (record { words = set s.words (home_count w) x; homes = s.homes; views = set s.views id (Works (committing w d h ev hints)) })) (sym (ap (λ n. (n + 1) % 2 ^ 64) stamp ∙ fits))
            (committed s kept id d ev hints at run now_may.touched (subst (λ l. length l < most_entries) mine.since.mine room)),
        (
          h,
          seen,
          sym stamp,
          subst (λ n. n < 2 ^ 48) (sym stamp) (small_number (length h) w.cpus few many),
          now_may.step,
          now_may.noted,
          subst (λ n. IsRun w (h ++ entry_as n d.cpu ev hints ∷ [])) (sym stamp) run,
          refl,
        ),
      ))
