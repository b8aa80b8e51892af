-- The first of a list that passes a test is the best thread that stands there and passes.
use Rattle.std.proofs.Common.{◌≡◌, ◌≢◌, ℕ, ◌<◌, ℤ, Bool, true, false, ◌==◌, ◌&&◌, ◌||◌, nat_lt, int_lt, List, length, get_or, Option, Some, None, option_map, slice_get, refl, sym, ap, ◌∙◌, arith}
use Rattle.std.proofs.lemmas.Bool.{and_parts, false_from_ne_true}
use Rattle.std.proofs.lemmas.Bool.Decides.{nat_tests}
use Rattle.std.proofs.lemmas.Int.{ints}
use Rattle.std.proofs.lemmas.Option.{slice_get-get_or, slice_get_within, get_or_from_slice_get}
use Rattle.sd_basics.proofs.Truths.{and_rest}
use Rattle.sd_boxq.specs.Order.{find_id, find_first, precedes, IsBest}
use Rattle.sd_boxq.proofs.InOrder.{best_first}
use Rattle.sd_record.specs.Records.{ThreadRecord}
use Rattle.sd_state.specs.declared.states.ThreadState.{ThreadState}
use Rattle.sd_state.specs.Best.{best_by}
use Rattle.sd_state.specs.States.{no_thread}
use Rattle.sd_state.proofs.BestLemmas.{best_by_is, IsBestBelow}
use Rattle.sd_homes.specs.declared.list_id.ListId.{ListId}
use Rattle.sd_homes.specs.Lists.{IsQueue}
use Rattle.sd_homes.specs.Standing.{stands, record_of, id_of, rank_of, key_in, Lists}
use Rattle.sd_homes.proofs.ListLemmas.{nowhere_found, found_apart, first_found, first_passes, none_passes}
use Rattle.sd_homes.proofs.StandingLemmas.{stood, shown}

-- the order of two who stand in one list
abbrev pub IsOrderThere : ListId → (ThreadState → ThreadState → Bool) → Type 0
IsOrderThere sp ahead = (t u : ℕ) (x y : ThreadState) → stands sp x ≡ true → stands sp y ≡ true → ahead x y ≡ precedes rank_of key_in (record_of t x) (record_of u y)

-- the candidates are those who stand there and pass
abbrev pub AreThose : ListId → (ThreadRecord → Bool) → (ThreadState → Bool) → Type 0
AreThose sp ok on = (t : ℕ) (x : ThreadState) → on x ≡ (stands sp x && ok (record_of t x))

not_behind : (p q : ℕ) (k j : ℤ) → k ≢ j → (nat_lt q p || ((p == q) && int_lt k j)) ≡ false → (nat_lt p q || ((q == p) && int_lt j k)) ≡ true
not_behind p q k j n e = grind (arith, nat_tests, ints)

module _ (n : ℕ) (sp : ListId) (rs : List ThreadRecord) (threads : List ThreadState) (l : Lists n sp rs (slice_get threads)) (q : IsQueue rank_of key_in n rs)
    (ok : ThreadRecord → Bool) (on : ThreadState → Bool) (ahead : ThreadState → ThreadState → Bool) (those : AreThose sp ok on) (order : IsOrderThere sp ahead) where
  candidate_found : (k : ℕ) (y : ThreadState) → slice_get threads k ≡ Some y → on y ≡ true → (find_id id_of k rs ≡ Some (record_of k y)) × (stands sp y ≡ true) × (ok (record_of k y) ≡ true)
  candidate_found k y e c =
      let parts = and_parts (stands sp y) (ok (record_of k y)) (sym (those k y) ∙ c) in
      (shown n sp rs (slice_get threads) k y l e parts.0, parts.0, parts.1)

  there : (k : ℕ) → k < length threads → slice_get threads k ≡ Some (get_or threads k no_thread)
  there k h = slice_get-get_or threads k no_thread h

  best_some : (r : ThreadRecord) → find_first ok rs ≡ Some r → IsBestBelow on ahead no_thread threads (length threads) (Some (id_of r))
  best_some r e =
      let found = first_found id_of ok r rs l.once e in
      let s = stood n sp rs (slice_get threads) (id_of r) r l found in
      let x = s.thread in
      let here : get_or threads (id_of r) no_thread ≡ x = get_or_from_slice_get threads (id_of r) x no_thread s.there in
      let passes : ok (record_of (id_of r) x) ≡ true = ap ok s.is ∙ first_passes id_of ok r rs e in
      let best : IsBest ok (precedes rank_of key_in) r rs = best_first rank_of key_in ok rs (Some r) q.ranked (sym e) in
      let unbeaten : (k : ℕ) → k < length threads → on (get_or threads k no_thread) ≡ true → precedes rank_of key_in (record_of k (get_or threads k no_thread)) r ≡ false =
      λ k h c. let y = candidate_found k (get_or threads k no_thread) (there k h) c in
      and_rest (ok (record_of k (get_or threads k no_thread))) _ y.2 (nowhere_found id_of (λ z. ok z && precedes rank_of key_in z r) k (record_of k (get_or threads k no_thread)) rs best.2 y.0) in
      record {
        inside = slice_get_within threads (id_of r) x s.there;
        candidate = rw here (those (id_of r) x ∙ rw (s.on, passes) refl);
        unbeaten = λ k h c.
            let y = candidate_found k (get_or threads k no_thread) (there k h) c in
            rw here (order k (id_of r) (get_or threads k no_thread) x y.1 s.on ∙ ap (precedes rank_of key_in (record_of k (get_or threads k no_thread))) s.is ∙ unbeaten k h c);
        first = λ k h c.
            let inside : k < length threads = (let w = slice_get_within threads (id_of r) x s.there in omega arith) in
            let y = candidate_found k (get_or threads k no_thread) (there k inside) c in
            let apart = found_apart id_of key_in k (id_of r) (record_of k (get_or threads k no_thread)) r rs q.apart y.0 found (λ f. omega arith) in
            rw here (order (id_of r) k x (get_or threads k no_thread) s.on y.1 ∙ ap (λ z. precedes rank_of key_in z (record_of k (get_or threads k no_thread))) s.is
            ∙ not_behind (rank_of (record_of k (get_or threads k no_thread))) (rank_of r) (key_in (record_of k (get_or threads k no_thread))) (key_in r) apart (unbeaten k inside c));
      }

  best_none : find_first ok rs ≡ None → IsBestBelow on ahead no_thread threads (length threads) None
  best_none e k h = false_from_ne_true (on (get_or threads k no_thread)) (λ c.
      let y = candidate_found k (get_or threads k no_thread) (there k h) c in
      let no = nowhere_found id_of ok k (record_of k (get_or threads k no_thread)) rs (none_passes id_of ok rs e) y.0 in
      let yes = y.2 in
      absurd cc)

  pub best_below : IsBestBelow on ahead no_thread threads (length threads) (option_map id_of (find_first ok rs))
  best_below = by (find_first ok rs) refl
    where
      by : (o : Option ThreadRecord) → find_first ok rs ≡ o → IsBestBelow on ahead no_thread threads (length threads) (option_map id_of o)
      by None e = best_none e
      by (Some r) e = best_some r e

  pub best_shown : best_by on ahead threads ≡ option_map id_of (find_first ok rs)
  best_shown = sym (best_by_is on ahead no_thread threads (option_map id_of (find_first ok rs)) best_below)
