-- Each kind of step keeps the rule: all but the commit.
use Rattle.std.proofs.Common.{◌≡◌, ◌≢◌, ℕ, zero, suc, ◌+◌, ◌*◌, ◌^◌, ◌<◌, ◌≤◌, true, false, eqb, List, [], ◌∷◌, set, Some, refl, sym, ap, ◌∙◌, subst, inl, inr, ⊎_elim, arith, length-set}
use Rattle.std.specs.Prelude.{slice_index, slice_set}
use Rattle.std.proofs.lemmas.Bool.{cases_eq, false≢true}
use Rattle.std.proofs.lemmas.Bool.Decides.{nat_tests}
use Rattle.std.proofs.lemmas.List.{set-get_or}
use mathlib.Core.Option as M
use lib.ListN.{get_elem?}
use prog.Atomic.{either}
use Rattle.atomic_table.specs.Table.{State as TableState, step, Me, Act, keeps, takes, gives, Allows}
use Rattle.atomic_table.proofs.Lists.{set_here, set_else}
use Rattle.sd_types.specs.declared.events.Which.{Which}
use Rattle.sd_types.specs.declared.events.Which.TheVariants.{Running, Queued}
use Rattle.sd_types.specs.declared.events.Entry.{Entry}
use Rattle.sd_types.specs.declared.works.Work.{Work}
use Rattle.sd_state.specs.States.{cpu_of}
use Rattle.sd_homes.specs.declared.home.Home.{Home}
use Rattle.sd_world.specs.declared.notes.Count.{Count}
use Rattle.sd_shared_rule.specs.declared.views.Note.{Note}
use Rattle.sd_shared_rule.specs.declared.views.Desk.{Desk}
use Rattle.sd_shared_rule.specs.declared.views.Written.{Written}
use Rattle.sd_shared_rule.specs.declared.views.View.{View}
use Rattle.sd_shared_rule.specs.declared.views.View.TheVariants.{Works}
use Rattle.sd_shared_rule.specs.Ledgers.{Named}
use Rattle.sd_shared_rule.specs.Places.{Stands, holds, home_count, now, place_home, without}
use Rattle.sd_shared_rule.specs.Rule.{Ledger, AtHome, Desked, Knows, Story, Kept}
use Rattle.sd_shared_rule.specs.Plays.{Counted, Gave, Hinted, Looked, Published, Sees, Slot, Took, Wrote, giving, hinted, looking, missing, naming, noting, seeing, taking, writing}
use Rattle.sd_shared_rule.specs.Words.{hint_at, hint_word, lock_of, put, thread_count, thread_word, tick_of, tick_word, which_word, word_of}
use Rattle.sd_shared_rule.proofs.Bridge.{count_within}
use Rattle.sd_shared_rule.proofs.Lists.{apart-without, holds-cons_else, holds-without_else, holds-without_same, holds_from_without, holds_here, put_else, put_here}
use Rattle.sd_shared_rule.proofs.Words as W
use Rattle.sd_shared_rule.proofs.Board.{hint_is, hint_kept, hint_set, lock_is, lock_kept, lock_set, stamp_kept, tick_else, tick_is, tick_set, word_is, word_kept, word_set}
use Rattle.sd_shared_rule.proofs.Since.{since_same}
use Rattle.sd_shared_rule.proofs.Seats.{seats, apart_cpus, lock_else, stray_else, with_stray}

abbrev pub TS : Type 0
TS = TableState Slot View

module _ (w : Work) where
  -- the desk of a seat
  pub desk_at : (s : TS) (kept : Kept w s) (id : ℕ) (d : Desk) → get_elem? s.views id ≡ M.some (Works d) → Desked w kept.ledger (lock_of w s.words) id d
  desk_at s kept id d at = kept.each_seat id (Works d) at

  pub other_cpu : (s : TS) (kept : Kept w s) (id : ℕ) (d : Desk) → get_elem? s.views id ≡ M.some (Works d)
      → (j : ℕ) (v : View) → j ≢ id → get_elem? s.views j ≡ M.some v → (u : Desk) → v ≡ Works u → u.cpu ≢ d.cpu
  other_cpu s kept id d at j v n there u is =
      apart_cpus w kept.ledger (lock_of w s.words) j id u d n (subst (λ x. Knows w kept.ledger (lock_of w s.words) j x) is (kept.each_seat j v there)) (desk_at s kept id d at)

  -- the desk changes alone
  notes : (s : TS) (kept : Kept w s) (id : ℕ) (d' : Desk) → Desked w kept.ledger (lock_of w s.words) id d'
      → Kept w (record { words = s.words; homes = s.homes; views = set s.views id (Works d') })
  notes s kept id d' mine = record {
    ledger = kept.ledger;
    wide = kept.wide;
    deep = kept.deep;
    story = kept.story;
    each_home = kept.each_home;
    named = kept.named;
    ticks = kept.ticks;
    small = kept.small;
    each_seat = seats (Knows w kept.ledger (lock_of w s.words)) s.views id (Works d') mine (λ j u n at. kept.each_seat j u at);
  }

  -- the same at a step that writes back what it found
  notes_at : (s : TS) (kept : Kept w s) (id i n : ℕ) (d' : Desk) → n ≡ slice_index s.words i → Desked w kept.ledger (lock_of w s.words) id d'
      → Kept w (record { words = slice_set s.words i n; homes = s.homes; views = slice_set s.views id (Works d') })
  notes_at s kept id i n d' is mine =
      subst (λ ws. Kept w (record { words = ws; homes = s.homes; views = set s.views id (Works d') })) (sym (ap (set s.words i) is ∙ set-get_or s.words i 0)) (notes s kept id d' mine)

  -- the whole history is seen
  pub sees : (s : TS) (kept : Kept w s) (id : ℕ) (d : Desk) → get_elem? s.views id ≡ M.some (Works d) → Sees w d kept.ledger.history
  sees s kept id d at = record { run = kept.story.run; since = (desk_at s kept id d at).since }

  seen_all : (l : Ledger) (lock : ℕ → ℕ) (id : ℕ) (d : Desk) → Desked w l lock id d → Desked w l lock id (seeing d l.history)
  seen_all l lock id d x = record {
    made = x.made;
    seat = x.seat;
    here = x.here;
    since = since_same w d.cpu d.held l.history;
    held = x.held;
    inside = x.inside;
    apart = x.apart;
    stray = x.stray;
    counts = x.counts;
  }

  missed : (l : Ledger) (lock : ℕ → ℕ) (id k n : ℕ) (d : Desk) → Desked w l lock id d → Desked w l lock id (missing d k n)
  missed l lock id k n d x = record {
    made = x.made;
    seat = x.seat;
    here = x.here;
    since = x.since;
    held = x.held;
    inside = x.inside;
    apart = x.apart;
    stray = x.stray;
    counts = x.counts;
  }

  hint_noted : (l : Ledger) (lock : ℕ → ℕ) (id : ℕ) (n : Note) (d : Desk) → Desked w l lock id d → Desked w l lock id (hinted d n)
  hint_noted l lock id n d x = record {
    made = x.made;
    seat = x.seat;
    here = x.here;
    since = x.since;
    held = x.held;
    inside = x.inside;
    apart = x.apart;
    stray = x.stray;
    counts = x.counts;
  }

  word_noted : (l : Ledger) (lock : ℕ → ℕ) (id : ℕ) (x : Written) (d : Desk) → Desked w l lock id d → Desked w l lock id (writing d x)
  word_noted l lock id x d is = record {
    made = is.made;
    seat = is.seat;
    here = is.here;
    since = is.since;
    held = is.held;
    inside = is.inside;
    apart = is.apart;
    stray = is.stray;
    counts = is.counts;
  }

  look_noted : (l : Ledger) (lock : ℕ → ℕ) (id t n : ℕ) (d : Desk) → Desked w l lock id d → Desked w l lock id (looking d t n)
  look_noted l lock id t n d x = record {
    made = x.made;
    seat = x.seat;
    here = x.here;
    since = x.since;
    held = x.held;
    inside = x.inside;
    apart = x.apart;
    stray = x.stray;
    counts = x.counts;
  }

  count_noted : (l : Ledger) (lock : ℕ → ℕ) (id : ℕ) (n : Count) (d : Desk) → n.number ≤ (cpu_of (now w l.history) n.cpu).count → Desked w l lock id d → Desked w l lock id (noting d n)
  count_noted l lock id n d true_now x = record {
    made = x.made;
    seat = x.seat;
    here = x.here;
    since = x.since;
    held = x.held;
    inside = x.inside;
    apart = x.apart;
    stray = x.stray;
    counts = all;
  }
    where
      all : (i : ℕ) (y : Count) → get_elem? (n ∷ d.counts) i ≡ M.some y → y.number ≤ (cpu_of (now w l.history) y.cpu).count
      all zero y at = subst (λ (z : Count). z.number ≤ (cpu_of (now w l.history) z.cpu).count) (M.some-injective n y at) true_now
      all (suc i) y at = x.counts i y at

  -- one lock word, its slot and the desk change
  locks : (s : TS) (kept : Kept w s) (id k m : ℕ) (y : M.Option Slot) (d d' : Desk) → get_elem? s.views id ≡ M.some (Works d) → k < home_count w
      → AtHome w kept.ledger (set s.homes k y) k m
      → Named w (now w kept.ledger.history) (put (lock_of w s.words) k m) (word_of w s.words) kept.ledger.stray
      → Desked w kept.ledger (put (lock_of w s.words) k m) id d'
      → ((c : ℕ) → c ≢ d.cpu → (lock_of w s.words k ≢ suc c) × (m ≢ suc c))
      → Kept w (record { words = set s.words k m; homes = set s.homes k y; views = set s.views id (Works d') })
  locks s kept id k m y d d' at i home named mine apart = record {
    ledger = kept.ledger;
    wide = length-set s.words k m ∙ kept.wide;
    deep = length-set s.homes k y ∙ kept.deep;
    story = subst (Story w kept.ledger) (sym (stamp_kept w s.words kept.wide k m (λ e. (omega arith)))) kept.story;
    each_home = λ j r. subst (λ (f : ℕ → ℕ). AtHome w kept.ledger (set s.homes k y) j (f j)) (sym is) (⊎_elim
        (λ (e : j ≡ k). subst (λ (p : ℕ × ℕ). AtHome w kept.ledger (set s.homes k y) p.0 p.1) (λ z. (sym e z, sym (ap (put lock k m) e ∙ put_here lock k m) z)) home)
        (λ (n : j ≢ k). subst (AtHome w kept.ledger (set s.homes k y) j) (sym (put_else lock k m j n)) (at_home j n (lock j) (kept.each_home j r)))
        (cases_eq j k));
    named = subst (λ f. Named w (now w kept.ledger.history) (lock_of w (set s.words k m)) f kept.ledger.stray) (sym (word_kept w s.words kept.wide k m (inl (omega arith))))
        (subst (λ f. Named w (now w kept.ledger.history) f (word_of w s.words) kept.ledger.stray) (sym is) named);
    ticks = λ c. subst (λ n. n ≤ (cpu_of (now w kept.ledger.history) c).count) (sym (tick_else w s.words kept.wide k m c (λ e. (omega arith)))) (kept.ticks c);
    small = λ j. subst (λ f. f j < 2 ^ 8) (sym (hint_kept w s.words kept.wide k m (inl (omega arith)))) (kept.small j);
    each_seat = seats (Knows w kept.ledger (lock_of w (set s.words k m))) s.views id (Works d')
        (subst (λ f. Desked w kept.ledger f id d') (sym is) mine)
        (λ j u n there. subst (λ f. Knows w kept.ledger f j u) (sym is) (lock_else w kept.ledger lock k m j u (λ x e. apart x.cpu (other_cpu s kept id d at j u n there x e)) (kept.each_seat j u there)));
  }
    where
      lock : ℕ → ℕ
      lock = lock_of w s.words

      is : lock_of w (set s.words k m) ≡ put lock k m
      is = lock_set w s.words kept.wide k m i

      at_home : (j : ℕ) → j ≢ k → (n : ℕ) → AtHome w kept.ledger s.homes j n → AtHome w kept.ledger (set s.homes k y) j n
      at_home j n zero h = (h.0, set_else s.homes k j y n ∙ h.1, h.2)
      at_home j n (suc c) h = h

  -- a home is taken
  taken : (s : TS) (kept : Kept w s) (id k : ℕ) (d : Desk) → get_elem? s.views id ≡ M.some (Works d) → k < home_count w → lock_of w s.words k ≡ 0 → holds k d.held ≡ false
      → Kept w (record { words = set s.words k (suc d.cpu); homes = set s.homes k M.none; views = set s.views id (Works (taking (seeing d kept.ledger.history) k)) })
  taken s kept id k d at i free fresh =
      locks s kept id k (suc d.cpu) M.none d (taking (seeing d kept.ledger.history) k) at i (mine.made, mine.here)
      (W.takes w (now w kept.ledger.history) lock (word_of w s.words) kept.ledger.stray kept.named k d.cpu free)
      (record {
        made = mine.made;
        seat = mine.seat;
        here = mine.here;
        since = since_same w d.cpu (k ∷ d.held) kept.ledger.history;
        held = λ j r. ⊎_elim
            (λ (e : j ≡ k). ap (λ x. holds x (k ∷ d.held)) e ∙ (holds_here k d.held ∙ sym (ap (λ x. eqb x (suc d.cpu)) (ap (put lock k (suc d.cpu)) e ∙ put_here lock k (suc d.cpu)) ∙ (let z : eqb (suc d.cpu) (suc d.cpu) ≡ true = grind (arith, nat_tests) in z))))
            (λ (n : j ≢ k). holds-cons_else j k d.held n ∙ (mine.held j r ∙ ap (λ x. eqb x (suc d.cpu)) (sym (put_else lock k (suc d.cpu) j n))))
            (cases_eq j k);
        inside = λ j h. ⊎_elim (λ (e : j ≡ k). subst (λ x. x < home_count w) (sym e) i) (λ (n : j ≢ k). mine.inside j (sym (holds-cons_else j k d.held n) ∙ h)) (cases_eq j k);
        apart = (fresh, mine.apart);
        stray = mine.stray;
        counts = mine.counts;
      })
      (λ c n. ((λ e. (let z : 0 ≡ suc c = sym free ∙ e in omega arith)), (λ e. n (omega arith))))
    where
      lock : ℕ → ℕ
      lock = lock_of w s.words

      mine : Desked w kept.ledger (lock_of w s.words) id d
      mine = desk_at s kept id d at

  -- the lock of a home that is held
  pub held_lock : (l : Ledger) (lock : ℕ → ℕ) (id k : ℕ) (d : Desk) → Desked w l lock id d → k < home_count w → holds k d.held ≡ true → lock k ≡ suc d.cpu
  held_lock l lock id k d x i h = let e : eqb (lock k) (suc d.cpu) ≡ true = sym (x.held k i) ∙ h in grind (arith, nat_tests)

  -- a home is given back
  given : (s : TS) (kept : Kept w s) (id k : ℕ) (x : Home) (d : Desk) → get_elem? s.views id ≡ M.some (Works d) → holds k d.held ≡ true → d.stray ≡ [] → Stands w k d.seen x
      → Kept w (record { words = set s.words k 0; homes = set s.homes k (M.some (Some x)); views = set s.views id (Works (giving d k)) })
  given s kept id k x d at h settled stands =
      let i = mine.inside k h in
      let locked : lock k ≡ suc d.cpu = held_lock kept.ledger lock id k d mine i h in
      locks s kept id k 0 (M.some (Some x)) d (giving d k) at i
      (x, set_here s.homes k (M.some (Some x)) (subst (λ n. k < n) (sym kept.deep) i), mine.since.keeps k x h stands)
      (W.gives w (now w kept.ledger.history) lock (word_of w s.words) kept.ledger.stray kept.named k d.cpu locked (mine.stray ∙ settled))
      (record {
        made = mine.made;
        seat = mine.seat;
        here = mine.here;
        since = record {
          begins = mine.since.begins;
          keeps = λ j v r. mine.since.keeps j v (holds_from_without j k d.held r);
          count = mine.since.count;
          duty = mine.since.duty;
          mine = mine.since.mine;
        };
        held = λ j r. ⊎_elim
            (λ (e : j ≡ k). ap (λ y. holds y (without k d.held)) e ∙ (holds-without_same k d.held mine.apart ∙ sym (ap (λ y. eqb y (suc d.cpu)) (ap (put lock k 0) e ∙ put_here lock k 0) ∙ (let z : eqb 0 (suc d.cpu) ≡ false = grind (arith, nat_tests) in z))))
            (λ (n : j ≢ k). holds-without_else j k d.held n ∙ (mine.held j r ∙ ap (λ y. eqb y (suc d.cpu)) (sym (put_else lock k 0 j n))))
            (cases_eq j k);
        inside = λ j r. mine.inside j (holds_from_without j k d.held r);
        apart = apart-without k d.held mine.apart;
        stray = mine.stray;
        counts = mine.counts;
      })
      (λ c n. ((λ e. n (let z : suc d.cpu ≡ suc c = sym locked ∙ e in omega arith)), (λ e. (omega arith))))
    where
      lock : ℕ → ℕ
      lock = lock_of w s.words

      mine : Desked w kept.ledger (lock_of w s.words) id d
      mine = desk_at s kept id d at

  -- a word that is no lock, no stamp and no thread's changes; the ticks stay true
  others : (s : TS) (kept : Kept w s) (i x : ℕ) → home_count w + 1 + thread_count w ≤ i → ((c : ℕ) → tick_of w (set s.words i x) c ≤ (cpu_of (now w kept.ledger.history) c).count) → ((j : ℕ) → hint_at w (set s.words i x) j < 2 ^ 8)
      → Kept w (record { words = set s.words i x; homes = s.homes; views = s.views })
  others s kept i x far ticks small =
      let is = lock_kept w s.words kept.wide i x (omega arith) in
      record {
        ledger = kept.ledger;
        wide = length-set s.words i x ∙ kept.wide;
        deep = kept.deep;
        story = subst (Story w kept.ledger) (sym (stamp_kept w s.words kept.wide i x (λ e. (omega arith)))) kept.story;
        each_home = λ j r. subst (λ (f : ℕ → ℕ). AtHome w kept.ledger s.homes j (f j)) (sym is) (kept.each_home j r);
        named = subst (λ f. Named w (now w kept.ledger.history) (lock_of w (set s.words i x)) f kept.ledger.stray) (sym (word_kept w s.words kept.wide i x (inr far)))
            (subst (λ f. Named w (now w kept.ledger.history) f (word_of w s.words) kept.ledger.stray) (sym is) kept.named);
        ticks = ticks;
        small = small;
        each_seat = λ j u at. subst (λ f. Knows w kept.ledger f j u) (sym is) (kept.each_seat j u at);
      }

  -- the word of a thread in a home that is held is published
  published : (s : TS) (kept : Kept w s) (id t : ℕ) (d : Desk) → get_elem? s.views id ≡ M.some (Works d) → t < thread_count w → holds (place_home w (now w kept.ledger.history) t) d.held ≡ true
      → Kept w (record { words = set s.words (thread_word w t) (place_home w (now w kept.ledger.history) t); homes = s.homes; views = set s.views id (Works (naming d t)) })
  published s kept id t d at i h =
      let k : ℕ = place_home w (now w kept.ledger.history) t in
      let inside = mine.inside k h in
      let is = lock_kept w s.words kept.wide (thread_word w t) k (omega arith) in
      let l' = with_stray w kept.ledger d.cpu (without t d.stray) in
      record {
        ledger = l';
        wide = length-set s.words (thread_word w t) k ∙ kept.wide;
        deep = kept.deep;
        story = story (subst (Story w kept.ledger) (sym (stamp_kept w s.words kept.wide (thread_word w t) k (λ e. (omega arith)))) kept.story);
        each_home = λ j r. subst (λ (f : ℕ → ℕ). AtHome w l' s.homes j (f j)) (sym is) (at_home j (lock j) (kept.each_home j r));
        named = subst (λ f. Named w (now w kept.ledger.history) (lock_of w (set s.words (thread_word w t) k)) f l'.stray) (sym (word_set w s.words kept.wide t k i))
            (subst (λ f. Named w (now w kept.ledger.history) f (put (word_of w s.words) t k) l'.stray) (sym is)
            (subst (λ (ts : List ℕ). Named w (now w kept.ledger.history) lock (put (word_of w s.words) t k) (put kept.ledger.stray d.cpu (without t ts))) mine.stray
            (W.publishes w (now w kept.ledger.history) lock (word_of w s.words) kept.ledger.stray kept.named t d.cpu i inside (held_lock kept.ledger lock id k d mine inside h))));
        ticks = λ c. subst (λ n. n ≤ (cpu_of (now w kept.ledger.history) c).count) (sym (tick_else w s.words kept.wide (thread_word w t) k c (λ e. (omega arith)))) (kept.ticks c);
        small = λ j. subst (λ f. f j < 2 ^ 8) (sym (hint_kept w s.words kept.wide (thread_word w t) k (inl (omega arith)))) (kept.small j);
        each_seat = seats (Knows w l' (lock_of w (set s.words (thread_word w t) k))) s.views id (Works (naming d t))
            (subst (λ f. Desked w l' f id (naming d t)) (sym is) (record {
              made = mine.made;
              seat = mine.seat;
              here = mine.here;
              since = mine.since;
              held = mine.held;
              inside = mine.inside;
              apart = mine.apart;
              stray = put_here kept.ledger.stray d.cpu (without t d.stray);
              counts = mine.counts;
            }))
            (λ j u n there. subst (λ f. Knows w l' f j u) (sym is) (stray_else w kept.ledger lock d.cpu (without t d.stray) j u (other_cpu s kept id d at j u n there) (kept.each_seat j u there)));
      }
    where
      lock : ℕ → ℕ
      lock = lock_of w s.words

      mine : Desked w kept.ledger (lock_of w s.words) id d
      mine = desk_at s kept id d at

      at_home : (j n : ℕ) → AtHome w kept.ledger s.homes j n → AtHome w (with_stray w kept.ledger d.cpu (without t d.stray)) s.homes j n
      at_home j zero h = h
      at_home j (suc c) h = h

      story : {n : ℕ} → Story w kept.ledger n → Story w (with_stray w kept.ledger d.cpu (without t d.stray)) n
      story x = record {
        run = x.run;
        stamp = x.stamp;
        few = x.few;
        some_made = x.some_made;
        unmade = λ c r. let u = x.unmade c r in (u.0, u.1, put_else kept.ledger.stray d.cpu (without t d.stray) c (λ e. (let z = mine.made in omega arith)) ∙ u.2);
        stay = λ c g. put_else kept.ledger.stray d.cpu (without t d.stray) c (λ e. false≢true (sym mine.here ∙ (ap kept.ledger.gone (sym e) ∙ g))) ∙ x.stay c g;
      }

  -- The steps as they are asked for.

  pub hint_inside : (c : ℕ) (which : Which) → c < w.cpus → 2 * c + which_word which < 2 * w.cpus
  hint_inside c Running inside = omega arith
  hint_inside c Queued inside = omega arith

  pub takes_home : (slots id : ℕ) (me : Me Slot View) (d : Desk) (bs : List (ℕ × Slot)) (k c1 : ℕ) → me ≡ (Works d, bs) → k < home_count w → c1 ≡ suc d.cpu → holds k d.held ≡ false
      → Allows (Kept w) slots id me k (λ n. either (eqb n 0) c1 n) (Took w (step slots k 0 c1 M.none) me)
  takes_home slots id me d bs k c1 is i c1_is fresh =
      subst (λ m. Allows (Kept w) slots id m k (λ n. either (eqb n 0) c1 n) (Took w (step slots k 0 c1 M.none) m)) (sym is)
      (λ s kept deep at small. ⊎_elim (λ (e : slice_index s.words k ≡ 0). hit s kept at e) (λ (n : slice_index s.words k ≢ 0). miss s kept at n) (cases_eq (slice_index s.words k) 0))
    where
      Goal : TS → Type 0
      Goal s = (v : View) × (a : Act Slot) × Rattle.atomic_table.specs.Table.Valid s.homes bs a × Kept w (Rattle.atomic_table.specs.Table.stepped s k (either (eqb (slice_index s.words k) 0) c1 (slice_index s.words k)) id bs v a)
          × Took w (step slots k 0 c1 M.none) (Works d, bs) (slice_index s.words k) (v, Rattle.atomic_table.specs.Table.carried_after bs a)

      held_by : (l : Ledger) (homes : List (M.Option Slot)) (n : ℕ) → l.made ≤ w.cpus → AtHome w l homes k n → n ≤ w.cpus
      held_by l homes zero some h = omega arith
      held_by l homes (suc c) some h = let z = h.0 in omega (arith, z, some)

      holder : (s : TS) (kept : Kept w s) → slice_index s.words k ≤ w.cpus
      holder s kept = subst (λ n. n ≤ w.cpus) (lock_is w s.words k i) (held_by kept.ledger s.homes (lock_of w s.words k) kept.story.some_made (kept.each_home k i))

      hit : (s : TS) (kept : Kept w s) → get_elem? s.views id ≡ M.some (Works d) → slice_index s.words k ≡ 0 → Goal s
      hit s kept at e =
          let free : lock_of w s.words k ≡ 0 = lock_is w s.words k i ∙ e in
          let home : AtHome w kept.ledger s.homes k 0 = subst (AtHome w kept.ledger s.homes k) free (kept.each_home k i) in
          let h = kept.ledger.history in (
            Works (taking (seeing d h) k),
            takes k (Some home.0),
            home.1,
            subst (λ x. Kept w (record { words = set s.words k x; homes = set s.homes k M.none; views = set s.views id (Works (taking (seeing d h) k)) })) (sym (ap (λ n. either (eqb n 0) c1 n) e ∙ c1_is)) (taken s kept id k d at i free fresh),
            (h, sees s kept id d at, (λ _. (home.0, home.2, refl)), (λ n. absurd (n e))),
          )

      miss : (s : TS) (kept : Kept w s) → get_elem? s.views id ≡ M.some (Works d) → slice_index s.words k ≢ 0 → Goal s
      miss s kept at n =
          let h = kept.ledger.history in
          let same : either (eqb (slice_index s.words k) 0) c1 (slice_index s.words k) ≡ slice_index s.words k = ap (λ b. either b c1 (slice_index s.words k)) (let z : eqb (slice_index s.words k) 0 ≡ false = grind (arith, nat_tests) in z) in (
            Works (missing (seeing d h) k (slice_index s.words k)),
            keeps,
            tt,
            notes_at s kept id k _ (missing (seeing d h) k (slice_index s.words k)) same (missed kept.ledger (lock_of w s.words) id k (slice_index s.words k) (seeing d h) (seen_all kept.ledger (lock_of w s.words) id d (desk_at s kept id d at))),
            (h, sees s kept id d at, (λ e. absurd (n e)), (λ _. (holder s kept, refl))),
          )

  pub gives_home : (slots id : ℕ) (me : Me Slot View) (d : Desk) (bs : List (ℕ × Slot)) (k : ℕ) (x : Home) → me ≡ (Works d, (k, Some x) ∷ bs) → holds k d.held ≡ true → d.stray ≡ [] → Stands w k d.seen x
      → (n : ℕ) → Allows (Kept w) slots id me k (λ _. 0) (λ _. Gave w (step slots k 0 0 M.none) me n)
  gives_home slots id me d bs k x is h settled stands n =
      subst (λ m. Allows (Kept w) slots id m k (λ _. 0) (λ _. Gave w (step slots k 0 0 M.none) m n)) (sym is)
      (λ s kept deep at small. (Works (giving d k), gives, tt, given s kept id k x d at h settled stands, refl))

  pub looks_up : (slots id : ℕ) (me : Me Slot View) (d : Desk) (bs : List (ℕ × Slot)) (t : ℕ) → me ≡ (Works d, bs) → t < thread_count w
      → Allows (Kept w) slots id me (thread_word w t) (λ n. n) (Looked w t (step slots (thread_word w t) 0 0 M.none) me)
  looks_up slots id me d bs t is i =
      subst (λ m. Allows (Kept w) slots id m (thread_word w t) (λ n. n) (Looked w t (step slots (thread_word w t) 0 0 M.none) m)) (sym is)
      (λ s kept deep at small.
      let h = kept.ledger.history in
      let mine = desk_at s kept id d at in
      let word = word_is w s.words t i in
      let inside : slice_index s.words (thread_word w t) < home_count w = subst (λ n. n < home_count w) word (kept.named.inside t i) in (
        Works (looking (seeing d h) t (slice_index s.words (thread_word w t))),
        keeps,
        tt,
        notes_at s kept id (thread_word w t) _ (looking (seeing d h) t (slice_index s.words (thread_word w t))) refl (look_noted kept.ledger (lock_of w s.words) id t (slice_index s.words (thread_word w t)) (seeing d h) (seen_all kept.ledger (lock_of w s.words) id d mine)),
        (
          h,
          sees s kept id d at,
          refl,
          inside,
          (λ settled held. W.looks w (now w h) (lock_of w s.words) (word_of w s.words) kept.ledger.stray kept.named t d.cpu i (held_lock kept.ledger (lock_of w s.words) id (word_of w s.words t) d mine (kept.named.inside t i) (ap (λ n. holds n d.held) word ∙ held)) (mine.stray ∙ settled) ∙ word),
        ),
      ))

  pub counts : (slots id : ℕ) (me : Me Slot View) (d : Desk) (bs : List (ℕ × Slot)) (c : ℕ) → me ≡ (Works d, bs)
      → Allows (Kept w) slots id me (tick_word w c) (λ n. n) (Counted w c (step slots (tick_word w c) 0 0 M.none) me)
  counts slots id me d bs c is =
      subst (λ m. Allows (Kept w) slots id m (tick_word w c) (λ n. n) (Counted w c (step slots (tick_word w c) 0 0 M.none) m)) (sym is)
      (λ s kept deep at small.
      let h = kept.ledger.history in
      let x : Count = record { cpu = c; number = slice_index s.words (tick_word w c) } in
      let reached = ticked s kept c in
      let most = w.most_limit in
      let within = count_within w h kept.story.run c in (
        Works (noting (seeing d h) x),
        keeps,
        tt,
        notes_at s kept id (tick_word w c) _ (noting (seeing d h) x) refl (count_noted kept.ledger (lock_of w s.words) id x (seeing d h) reached (seen_all kept.ledger (lock_of w s.words) id d (desk_at s kept id d at))),
        (h, sees s kept id d at, reached, (omega (arith, reached, most, within)), refl),
      ))
    where
      ticked : (s : TS) (kept : Kept w s) (c : ℕ) → slice_index s.words (tick_word w c) ≤ (cpu_of (now w kept.ledger.history) c).count
      ticked s kept c = subst (λ n. n ≤ (cpu_of (now w kept.ledger.history) c).count) (tick_is w s.words c) (kept.ticks c)

  pub hints : (slots id : ℕ) (me : Me Slot View) (d : Desk) (bs : List (ℕ × Slot)) (c : ℕ) (which : Which) → me ≡ (Works d, bs) → c < w.cpus
      → Allows (Kept w) slots id me (hint_word w c which) (λ n. n) (Hinted w c which (step slots (hint_word w c which) 0 0 M.none) me)
  hints slots id me d bs c which is inside =
      subst (λ m. Allows (Kept w) slots id m (hint_word w c which) (λ n. n) (Hinted w c which (step slots (hint_word w c which) 0 0 M.none) m)) (sym is)
      (λ s kept deep at small.
      let x : Note = record { cpu = c; which = which; number = slice_index s.words (hint_word w c which) } in (
        Works (hinted d x),
        keeps,
        tt,
        notes_at s kept id (hint_word w c which) _ (hinted d x) refl (hint_noted kept.ledger (lock_of w s.words) id x d (desk_at s kept id d at)),
        (shown s kept, refl),
      ))
    where
      at_which : 2 * c + which_word which < 2 * w.cpus
      at_which = hint_inside c which inside

      same_word : (home_count w + 1 + thread_count w) + (2 * c + which_word which) ≡ hint_word w c which
      same_word = omega arith

      shown : (s : TS) (kept : Kept w s) → slice_index s.words (hint_word w c which) < 2 ^ 8
      shown s kept = subst (λ i. slice_index s.words i < 2 ^ 8) same_word (subst (λ n. n < 2 ^ 8) (hint_is w s.words (2 * c + which_word which) at_which) (kept.small (2 * c + which_word which)))

  pub publishes_word : (slots id : ℕ) (me : Me Slot View) (d : Desk) (bs : List (ℕ × Slot)) (t k : ℕ) → me ≡ (Works d, bs) → t < thread_count w
      → ((h : List Entry) → Sees w d h → (place_home w (now w h) t ≡ k) × (holds k d.held ≡ true)) → (n : ℕ)
      → Allows (Kept w) slots id me (thread_word w t) (λ _. k) (λ _. Published w t (step slots (thread_word w t) k 0 M.none) me n)
  publishes_word slots id me d bs t k is i still n =
      subst (λ m. Allows (Kept w) slots id m (thread_word w t) (λ _. k) (λ _. Published w t (step slots (thread_word w t) k 0 M.none) m n)) (sym is)
      (λ s kept deep at small.
      let p = still kept.ledger.history (sees s kept id d at) in
      let r = published s kept id t d at i (ap (λ x. holds x d.held) p.0 ∙ p.1) in
      (Works (naming d t), keeps, tt, subst (λ x. Kept w (record { words = set s.words (thread_word w t) x; homes = s.homes; views = set s.views id (Works (naming d t)) })) p.0 r, refl))

  -- a word that neither the story nor the homes are about was written, and noted
  wrote : (s : TS) (id i x : ℕ) (d : Desk) → get_elem? s.views id ≡ M.some (Works d) → Kept w (record { words = set s.words i x; homes = s.homes; views = s.views })
      → Kept w (record { words = set s.words i x; homes = s.homes; views = set s.views id (Works (writing d (record { word = i; number = x }))) })
  wrote s id i x d at kept =
      let z : TS = record { words = set s.words i x; homes = s.homes; views = s.views } in
      notes z kept id (writing d (record { word = i; number = x })) (word_noted kept.ledger (lock_of w z.words) id (record { word = i; number = x }) d (desk_at z kept id d at))

  pub writes_hint : (slots id : ℕ) (me : Me Slot View) (d : Desk) (bs : List (ℕ × Slot)) (c : ℕ) (which : Which) (x : ℕ) → me ≡ (Works d, bs) → c < w.cpus → x < 2 ^ 8 → (n : ℕ)
      → Allows (Kept w) slots id me (hint_word w c which) (λ _. x) (λ _. Wrote w (step slots (hint_word w c which) x 0 M.none) me n)
  writes_hint slots id me d bs c which x is inside fits n =
      subst (λ m. Allows (Kept w) slots id m (hint_word w c which) (λ _. x) (λ _. Wrote w (step slots (hint_word w c which) x 0 M.none) m n)) (sym is)
      (λ s kept deep at small. (
        Works (writing d (record { word = hint_word w c which; number = x })),
        keeps,
        tt,
        wrote s id (hint_word w c which) x d at
            (others s kept (hint_word w c which) x (omega arith)
            (λ e. subst (λ m. m ≤ (cpu_of (now w kept.ledger.history) e).count) (sym (tick_else w s.words kept.wide (hint_word w c which) x e (λ q. (let z = at_which in omega (arith, z, q))))) (kept.ticks e))
            (λ j. subst (λ f. f j < 2 ^ 8) (sym (hints_set s kept)) (small_put j (hint_at w s.words) (kept.small j)))),
        refl,
      ))
    where
      at_which : 2 * c + which_word which < 2 * w.cpus
      at_which = hint_inside c which inside

      same_word : (home_count w + 1 + thread_count w) + (2 * c + which_word which) ≡ hint_word w c which
      same_word = omega arith

      hints_set : (s : TS) (kept : Kept w s) → hint_at w (set s.words (hint_word w c which) x) ≡ put (hint_at w s.words) (2 * c + which_word which) x
      hints_set s kept = subst (λ i. hint_at w (set s.words i x) ≡ put (hint_at w s.words) (2 * c + which_word which) x) same_word (hint_set w s.words kept.wide (2 * c + which_word which) x at_which)

      small_put : (j : ℕ) (f : ℕ → ℕ) → f j < 2 ^ 8 → put f (2 * c + which_word which) x j < 2 ^ 8
      small_put j f was = ⊎_elim
          (λ (e : j ≡ 2 * c + which_word which). subst (λ m. m < 2 ^ 8) (sym (ap (put f (2 * c + which_word which) x) e ∙ put_here f (2 * c + which_word which) x)) fits)
          (λ (m : j ≢ 2 * c + which_word which). subst (λ y. y < 2 ^ 8) (sym (put_else f (2 * c + which_word which) x j m)) was)
          (cases_eq j (2 * c + which_word which))

  pub writes_tick : (slots id : ℕ) (me : Me Slot View) (d : Desk) (bs : List (ℕ × Slot)) (x : ℕ) → me ≡ (Works d, bs) → d.cpu < w.cpus → x ≡ (cpu_of (now w d.seen) d.cpu).count → (n : ℕ)
      → Allows (Kept w) slots id me (tick_word w d.cpu) (λ _. x) (λ _. Wrote w (step slots (tick_word w d.cpu) x 0 M.none) me n)
  writes_tick slots id me d bs x is i own n =
      subst (λ m. Allows (Kept w) slots id m (tick_word w d.cpu) (λ _. x) (λ _. Wrote w (step slots (tick_word w d.cpu) x 0 M.none) m n)) (sym is)
      (λ s kept deep at small. (
        Works (writing d (record { word = tick_word w d.cpu; number = x })),
        keeps,
        tt,
        wrote s id (tick_word w d.cpu) x d at
            (others s kept (tick_word w d.cpu) x (omega arith) (λ c. ⊎_elim
            (λ (e : c ≡ d.cpu). subst (λ y. tick_of w (set s.words (tick_word w d.cpu) x) y ≤ (cpu_of (now w kept.ledger.history) y).count) (sym e)
            (let q = tick_set w s.words kept.wide d.cpu x i in let r = (desk_at s kept id d at).since.count in omega (arith, q, r, own)))
            (λ (m : c ≢ d.cpu). subst (λ z. z ≤ (cpu_of (now w kept.ledger.history) c).count) (sym (tick_else w s.words kept.wide (tick_word w d.cpu) x c (λ e. m (omega arith)))) (kept.ticks c))
            (cases_eq c d.cpu))
            (λ j. subst (λ f. f j < 2 ^ 8) (sym (hint_kept w s.words kept.wide (tick_word w d.cpu) x (inr (omega arith)))) (kept.small j))),
        refl,
      ))
