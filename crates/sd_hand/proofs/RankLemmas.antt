-- The priority of a thread that a list has is that of its record there.
use Rattle.std.proofs.Common.{◌≡◌, ◌⊎◌, inl, inr, ℕ, Bool, true, false, nat_lt, List, Option, Some, None, option_map, slice_get, refl, sym, ap, ◌∙◌}
use Rattle.std.proofs.lemmas.Option.{get_or_from_slice_get}
use Rattle.sd_boxq.specs.Order.{find_first}
use Rattle.sd_types.specs.Priorities.{eff}
use Rattle.sd_record.specs.Records.{ThreadRecord}
use Rattle.sd_state.specs.declared.states.State.{State}
use Rattle.sd_state.specs.declared.states.ThreadState.{ThreadState}
use Rattle.sd_state.specs.States.{eff_of, no_thread, thread_of}
use Rattle.sd_machine.specs.Threads.{priority_of}
use Rattle.sd_homes.specs.declared.list_id.ListId.{ListId}
use Rattle.sd_homes.specs.Standing.{better, id_of, look_of, rank_of, Lists}
use Rattle.sd_homes.proofs.ListLemmas.{first_found}
use Rattle.sd_homes.proofs.LookShown.{first_of_all}
use Rattle.sd_homes.proofs.StandingLemmas.{stood}
use Rattle.sd_hand.specs.Ranked.{ranked_in, with_rank}

module _ (n : ℕ) (s : State) (sp : ListId) (rs : List ThreadRecord) (l : Lists n sp rs (look_of s)) where
  -- of the first that passes a test
  pub rank_told : (ok : ThreadRecord → Bool) → priority_of s (option_map id_of (find_first ok rs)) ≡ option_map rank_of (find_first ok rs)
  rank_told ok = by (find_first ok rs) refl
    where
      by : (o : Option ThreadRecord) → find_first ok rs ≡ o → priority_of s (option_map id_of o) ≡ option_map rank_of o
      by None e = refl
      by (Some r) e =
          let st = stood n sp rs (look_of s) (id_of r) r l (first_found id_of ok r rs l.once e) in
          let here : thread_of s (id_of r) ≡ st.thread = get_or_from_slice_get s.threads (id_of r) st.thread no_thread st.there in
          ap Some (ap (λ (x : ThreadState). eff x.body) here ∙ ap rank_of st.is)

  -- of the first of all
  pub first_rank_told : priority_of s (option_map id_of (slice_get rs 0)) ≡ option_map rank_of (slice_get rs 0)
  first_rank_told = ap (λ o. priority_of s (option_map id_of o)) (sym (first_of_all rs)) ∙ (rank_told (λ r. true) ∙ ap (option_map rank_of) (first_of_all rs))

  pub first_is_ranked : (r : ThreadRecord) → slice_get rs 0 ≡ Some r → eff_of s (id_of r) ≡ rank_of r
  first_is_ranked r e =
      let same : Some (eff_of s (id_of r)) ≡ Some (rank_of r) = ap (λ o. priority_of s (option_map id_of o)) (sym e) ∙ (first_rank_told ∙ ap (option_map rank_of) e) in
      cc

-- ---- of the better of two
better_is : (o u : Option ThreadRecord) (r : ThreadRecord) → better o u ≡ Some r → (o ≡ Some r) ⊎ (u ≡ Some r)
better_is None u r e = inr e
better_is (Some q) None r e = inl e
better_is (Some q) (Some p) r e = by (nat_lt (rank_of p) (rank_of q)) refl
  where
    by : (b : Bool) → nat_lt (rank_of p) (rank_of q) ≡ b → (Some q ≡ Some r) ⊎ (Some p ≡ Some r)
    by true f = inl (rw f at e)
    by false f = inr (rw f at e)

ranked_by : (s : State) (o : Option ThreadRecord) → ((r : ThreadRecord) → o ≡ Some r → eff_of s (id_of r) ≡ rank_of r) → option_map (ranked_in s) (option_map id_of o) ≡ option_map with_rank o
ranked_by s None told = refl
ranked_by s (Some r) told = ap (λ p. Some (r.id, p)) (told r refl)

pub better_ranked : (n : ℕ) (s : State) (c p : ListId) (rs qs : List ThreadRecord) → Lists n c rs (look_of s) → Lists n p qs (look_of s)
    → option_map (ranked_in s) (option_map id_of (better (slice_get rs 0) (slice_get qs 0))) ≡ option_map with_rank (better (slice_get rs 0) (slice_get qs 0))
better_ranked n s c p rs qs l m = ranked_by s (better (slice_get rs 0) (slice_get qs 0)) (λ r e. by r (better_is (slice_get rs 0) (slice_get qs 0) r e))
  where
    by : (r : ThreadRecord) → (slice_get rs 0 ≡ Some r) ⊎ (slice_get qs 0 ≡ Some r) → eff_of s (id_of r) ≡ rank_of r
    by r (inl a) = first_is_ranked n s c rs l r a
    by r (inr b) = first_is_ranked n s p qs m r b

-- the priority of who was found with it
pub ranked_priority : (s : State) (t : Option ℕ) → option_map (λ r. r.1) (option_map (ranked_in s) t) ≡ priority_of s t
ranked_priority s None = refl
ranked_priority s (Some t) = refl
