-- The best of a processor's own queue and of the real-time queue of its partition.
use Rattle.std.proofs.Common.{◌≡◌, ℕ, ◌<◌, ℤ, Bool, true, false, ◌==◌, ◌&&◌, ◌||◌, nat_lt, int_lt, List, length, get_or, Option, Some, None, inl, inr, option_map, slice_get, refl, sym, ap, ◌∙◌, arith}
use Rattle.std.proofs.lemmas.Bool.{or_cases, or_from, or_left, or_right}
use Rattle.std.proofs.lemmas.Bool.Decides.{nat_tests}
use Rattle.std.proofs.lemmas.Option.{get_or_from_slice_get}
use Rattle.sd_types.specs.declared.numbers.CpuId.{CpuId}
use Rattle.sd_types.specs.declared.numbers.SetId.{SetId}
use Rattle.sd_types.specs.Priorities.{eff}
use Rattle.sd_boxq.specs.Order.{find_first}
use Rattle.sd_record.specs.Records.{ThreadRecord}
use Rattle.sd_state.specs.declared.states.Place.{Place}
use Rattle.sd_state.specs.declared.states.Place.TheVariants.{Queued, RealTime}
use Rattle.sd_state.specs.declared.states.State.{State}
use Rattle.sd_state.specs.Best.{best_by, goes_before, queue_rank, beats}
use Rattle.sd_state.specs.States.{key_of, is_ready, no_thread, cpu_of}
use Rattle.sd_state.proofs.BestLemmas.{IsOrder, IsBest, IsBestBelow, best_by_is}
use Rattle.sd_state.proofs.OrderLemmas.{beats_order}
use Rattle.sd_machine.specs.Threads.{best_ready}
use Rattle.sd_homes.specs.declared.list_id.ListId.TheVariants.{Queues, Urgent}
use Rattle.sd_homes.specs.Standing.{stands, stands_at, record_key, id_of, rank_of, better, look_of, Lists}
use Rattle.sd_homes.proofs.ListLemmas.{first_found}
use Rattle.sd_homes.proofs.StandingLemmas.{Stood, stood}
use Rattle.sd_homes.proofs.BestShown.{IsOrderThere, best_below}
use Rattle.sd_homes.proofs.LookShown.{queues_order, and_true, first_of_all}

-- ---- the better of two that are the best of theirs
module _ {X : Type 0} (a b : X → Bool) (ahead : X → X → Bool) (order : IsOrder ahead) (d : X) (xs : List X) (n : ℕ) where
  abbrev pub either : X → Bool
  either x = a x || b x

  wins_left : (i j : ℕ) → IsBest a ahead d xs n i → IsBest b ahead d xs n j → ahead (get_or xs i d) (get_or xs j d) ≡ true → IsBest either ahead d xs n i
  wins_left i j p q w = record {
    inside = p.inside;
    candidate = or_left (a (get_or xs i d)) (b (get_or xs i d)) p.candidate;
    unbeaten = λ k h c. elim (or_cases (a (get_or xs k d)) (b (get_or xs k d)) c) [
      | inl l ↦ p.unbeaten k h l
      | inr r ↦ order.past (get_or xs k d) (get_or xs i d) (get_or xs j d) w (q.unbeaten k h r)
    ];
    first = λ k h c. elim (or_cases (a (get_or xs k d)) (b (get_or xs k d)) c) [
      | inl l ↦ p.first k h l
      | inr r ↦ order.back (get_or xs k d) (get_or xs i d) (get_or xs j d) w (q.unbeaten k (let e = p.inside in omega arith) r)
    ];
  }

  wins_right : (i j : ℕ) → IsBest a ahead d xs n i → IsBest b ahead d xs n j → ahead (get_or xs j d) (get_or xs i d) ≡ true → IsBest either ahead d xs n j
  wins_right i j p q w = record {
    inside = q.inside;
    candidate = or_right (a (get_or xs j d)) (b (get_or xs j d)) q.candidate;
    unbeaten = λ k h c. elim (or_cases (a (get_or xs k d)) (b (get_or xs k d)) c) [
      | inl l ↦ order.past (get_or xs k d) (get_or xs j d) (get_or xs i d) w (p.unbeaten k h l)
      | inr r ↦ q.unbeaten k h r
    ];
    first = λ k h c. elim (or_cases (a (get_or xs k d)) (b (get_or xs k d)) c) [
      | inl l ↦ order.back (get_or xs k d) (get_or xs j d) (get_or xs i d) w (p.unbeaten k (let e = q.inside in omega arith) l)
      | inr r ↦ q.first k h r
    ];
  }

  only_left : (i : ℕ) → IsBest a ahead d xs n i → ((k : ℕ) → k < n → b (get_or xs k d) ≡ false) → IsBest either ahead d xs n i
  only_left i p none = record {
    inside = p.inside;
    candidate = or_left (a (get_or xs i d)) (b (get_or xs i d)) p.candidate;
    unbeaten = λ k h c. elim (or_cases (a (get_or xs k d)) (b (get_or xs k d)) c) [ inl l ↦ p.unbeaten k h l | inr r ↦ (let no = none k h in absurd cc) ];
    first = λ k h c. elim (or_cases (a (get_or xs k d)) (b (get_or xs k d)) c) [ inl l ↦ p.first k h l | inr r ↦ (let no = none k (let e = p.inside in omega arith) in absurd cc) ];
  }

  only_right : (j : ℕ) → IsBest b ahead d xs n j → ((k : ℕ) → k < n → a (get_or xs k d) ≡ false) → IsBest either ahead d xs n j
  only_right j q none = record {
    inside = q.inside;
    candidate = or_right (a (get_or xs j d)) (b (get_or xs j d)) q.candidate;
    unbeaten = λ k h c. elim (or_cases (a (get_or xs k d)) (b (get_or xs k d)) c) [ inl l ↦ (let no = none k h in absurd cc) | inr r ↦ q.unbeaten k h r ];
    first = λ k h c. elim (or_cases (a (get_or xs k d)) (b (get_or xs k d)) c) [ inl l ↦ (let no = none k (let e = q.inside in omega arith) in absurd cc) | inr r ↦ q.first k h r ];
  }

-- ---- the real-time queue
order_urgent : (c : SetId) (last last' : CpuId) (p q : ℕ) (x y : Place) → stands_at (Urgent c) last x ≡ true → stands_at (Urgent c) last' y ≡ true
    → goes_before p (queue_rank x) (key_of x) q (queue_rank y) (key_of y) ≡ (nat_lt q p || ((p == q) && int_lt (record_key x) (record_key y)))
order_urgent c last last' p q (RealTime d k) (RealTime e j) on on' = refl
order_urgent c last last' p q _ _ on on' = absurd cc

pub urgent_order : (p : SetId) → IsOrderThere (Urgent p) beats
urgent_order p t u x y on on' = order_urgent p x.body.last y.body.last (eff x.body) (eff y.body) x.place y.place on on'

own_first : (p q : ℕ) (k j : ℤ) → nat_lt q p ≡ true → goes_before p 1 k q 0 j ≡ true
own_first p q k j e = rw e refl

urgent_first : (p q : ℕ) (k j : ℤ) → nat_lt q p ≡ false → goes_before q 0 j p 1 k ≡ true
urgent_first p q k j e = grind (arith, nat_tests)

own_before : (c : CpuId) (s : SetId) (last last' : CpuId) (p q : ℕ) (x y : Place) → stands_at (Queues c) last x ≡ true → stands_at (Urgent s) last' y ≡ true
    → nat_lt q p ≡ true → goes_before p (queue_rank x) (key_of x) q (queue_rank y) (key_of y) ≡ true
own_before c s last last' p q (Queued d k) (RealTime e j) on on' h = own_first p q k j h
own_before c s last last' p q _ _ on on' h = absurd cc

urgent_before : (c : CpuId) (s : SetId) (last last' : CpuId) (p q : ℕ) (x y : Place) → stands_at (Queues c) last x ≡ true → stands_at (Urgent s) last' y ≡ true
    → nat_lt q p ≡ false → goes_before q (queue_rank y) (key_of y) p (queue_rank x) (key_of x) ≡ true
urgent_before c s last last' p q (Queued d k) (RealTime e j) on on' h = urgent_first p q k j h
urgent_before c s last last' p q _ _ on on' h = absurd cc

-- ---- both
module _ (n : ℕ) (s : State) (c : CpuId) (p : SetId) (rs qs : List ThreadRecord) (l : Lists n (Queues c) rs (look_of s)) (m : Lists n (Urgent p) qs (look_of s)) where
  own : IsBestBelow (stands (Queues c)) beats no_thread s.threads (length s.threads) (option_map id_of (find_first (λ r. true) rs))
  own = best_below n (Queues c) rs s.threads l l.arranged (λ r. true) (λ x. stands (Queues c) x) beats (λ t x. and_true (stands (Queues c) x)) (queues_order c)

  urgent : IsBestBelow (stands (Urgent p)) beats no_thread s.threads (length s.threads) (option_map id_of (find_first (λ r. true) qs))
  urgent = best_below n (Urgent p) qs s.threads m m.arranged (λ r. true) (λ x. stands (Urgent p) x) beats (λ t x. and_true (stands (Urgent p) x)) (urgent_order p)

  abbrev pub IsBestOfBoth : Option ℕ → Type 0
  IsBestOfBoth o = IsBestBelow (λ x. is_ready c.0 p.0 x.place) beats no_thread s.threads (length s.threads) o

  both_by : (o u : Option ThreadRecord) → find_first (λ r. true) rs ≡ o → find_first (λ r. true) qs ≡ u
      → IsBestBelow (stands (Queues c)) beats no_thread s.threads (length s.threads) (option_map id_of o)
      → IsBestBelow (stands (Urgent p)) beats no_thread s.threads (length s.threads) (option_map id_of u)
      → IsBestOfBoth (option_map id_of (better o u))
  both_by None None e f a b = λ k h. or_from (stands (Queues c) (get_or s.threads k no_thread)) (stands (Urgent p) (get_or s.threads k no_thread)) (a k h) (b k h)
  both_by None (Some q) e f a b = only_right (stands (Queues c)) (stands (Urgent p)) beats beats_order no_thread s.threads (length s.threads) (id_of q) b a
  both_by (Some r) None e f a b = only_left (stands (Queues c)) (stands (Urgent p)) beats beats_order no_thread s.threads (length s.threads) (id_of r) a b
  both_by (Some r) (Some q) e f a b = by (nat_lt (rank_of q) (rank_of r)) refl
    where
      x : Stood (Queues c) (look_of s) (id_of r) r
      x = stood n (Queues c) rs (look_of s) (id_of r) r l (first_found id_of (λ z. true) r rs l.once e)

      y : Stood (Urgent p) (look_of s) (id_of q) q
      y = stood n (Urgent p) qs (look_of s) (id_of q) q m (first_found id_of (λ z. true) q qs m.once f)

      here : get_or s.threads (id_of r) no_thread ≡ x.thread
      here = get_or_from_slice_get s.threads (id_of r) x.thread no_thread x.there

      there : get_or s.threads (id_of q) no_thread ≡ y.thread
      there = get_or_from_slice_get s.threads (id_of q) y.thread no_thread y.there

      by : (t : Bool) → nat_lt (rank_of q) (rank_of r) ≡ t → IsBestOfBoth (option_map id_of (better (Some r) (Some q)))
      by true h =
          let less : nat_lt (eff y.thread.body) (eff x.thread.body) ≡ true = ap (λ z. nat_lt (rank_of z) (eff x.thread.body)) y.is ∙ ap (λ z. nat_lt (rank_of q) (rank_of z)) x.is ∙ h in
          rw h (wins_left (stands (Queues c)) (stands (Urgent p)) beats beats_order no_thread s.threads (length s.threads) (id_of r) (id_of q) a b
          (rw (here, there) (own_before c p x.thread.body.last y.thread.body.last (eff x.thread.body) (eff y.thread.body) x.thread.place y.thread.place x.on y.on less)))
      by false h =
          let less : nat_lt (eff y.thread.body) (eff x.thread.body) ≡ false = ap (λ z. nat_lt (rank_of z) (eff x.thread.body)) y.is ∙ ap (λ z. nat_lt (rank_of q) (rank_of z)) x.is ∙ h in
          rw h (wins_right (stands (Queues c)) (stands (Urgent p)) beats beats_order no_thread s.threads (length s.threads) (id_of r) (id_of q) a b
          (rw (here, there) (urgent_before c p x.thread.body.last y.thread.body.last (eff x.thread.body) (eff y.thread.body) x.thread.place y.thread.place x.on y.on less)))

  both : best_by (λ x. is_ready c.0 p.0 x.place) beats s.threads ≡ option_map id_of (better (find_first (λ r. true) rs) (find_first (λ r. true) qs))
  both = sym (best_by_is (λ x. is_ready c.0 p.0 x.place) beats no_thread s.threads (option_map id_of (better (find_first (λ r. true) rs) (find_first (λ r. true) qs)))
      (both_by (find_first (λ r. true) rs) (find_first (λ r. true) qs) refl refl own urgent))

  pub best_ready_shown : (cpu_of s c.0).set ≡ p → best_ready s c.0 ≡ option_map id_of (better (slice_get rs 0) (slice_get qs 0))
  unfolding best_ready
  best_ready_shown e =
      ap (λ (q : SetId). best_by (λ x. is_ready c.0 q.0 x.place) beats s.threads) e
      ∙ (both ∙ ap (λ o. option_map id_of (better o (find_first (λ r. true) qs))) (first_of_all rs)
      ∙ ap (λ o. option_map id_of (better (slice_get rs 0) o)) (first_of_all qs))
