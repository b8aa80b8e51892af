-- Each thread of a state stands in one of its homes, and what is found there is that thread.
use Rattle.std.proofs.Common.{◌≡◌, ℕ, ◌<◌, true, is_some, List, Option, Some, None, refl, sym, ap, ◌∙◌, subst}
use Rattle.std.specs.Prelude.{ℤ, length}
use Rattle.sd_types.specs.declared.numbers.CpuId.{CpuId}
use Rattle.sd_types.specs.declared.bodies.ThreadBody.{ThreadBody}
use Rattle.sd_record.specs.Records.{ThreadRecord}
use Rattle.sd_state.specs.declared.states.Place.{Place}
use Rattle.sd_state.specs.declared.states.Place.TheVariants.{Napping}
use Rattle.sd_state.specs.declared.states.State.{State}
use Rattle.sd_state.specs.States.{thread_of}
use Rattle.sd_invariants.proofs.Ready.{reached_ready}
use Rattle.sd_invariants.proofs.All.{threads_law}
use Rattle.sd_homes.specs.declared.list_id.ListId.{ListId}
use Rattle.sd_homes.specs.Standing.{home_at, home_of, list_at, list_of, record_key, record_of}
use Rattle.sd_homes.specs.declared.home.Home.{Home}
use Rattle.sd_homes.specs.Families.{taken_from}
use Rattle.sd_hand.specs.Hands.{StandsIn, has_thread, held}
use Rattle.sd_homes.proofs.NumberLemmas.{home_of_list}
use Rattle.sd_hand.specs.Shown.{StandsAt}
use Rattle.sd_hand.proofs.FoundLemmas.{listed_has}
use Rattle.sd_hand.proofs.MoveLemmas.{is_taken, not_none, stands_at, stands_held, taken}
use Rattle.sd_hand.proofs.SlotLemmas.{held_has}
use Rattle.sd_world.specs.Told.{IsDue, IsToldBy}
use Rattle.sd_world.proofs.NapLemmas.{NapFits, naps_fit}
use Rattle.sd_footprint.proofs.ThereLemmas.{list_there}

-- the list and the key of a place
due_at : (last : CpuId) (p : Place) → NapFits p → IsDue (list_at last p) (record_key p)
due_at last (Napping c due) fits = (due, fits, refl)
due_at last p fits = tt

-- whatever place has this list and this key, it is this one
abbrev pub IsPlaceAt : ListId → ℤ → Place → Type 0
IsPlaceAt sp k place = (last : CpuId) (p : Place) → list_at last p ≡ sp → record_key p ≡ k → place ≡ p

module _ (hs : List (Option Home)) (s : State) (t : ℕ) (told : IsToldBy hs s) where
  pub stands_somewhere : t < length s.threads → has_thread t hs ≡ true
  stands_somewhere inside =
      let x = thread_of s t in
      let there = threads_law told.work told.number s told.reached t in
      let (h, is) = told.homes.all (home_of x) (home_of_list s (list_of x) (list_there told.work s x.body.last x.place (reached_ready told.work told.number s told.reached).fits there.last there.place)) in
      let found = taken told.number s t (list_of x) hs (record { inside = inside; list = refl }) told.homes.shown (h, is) in
      held_has (home_of x) t h hs is (listed_has t h (list_of x) (ap is_some (sym (ap (taken_from t (list_of x)) is) ∙ found)))

  module _ (sp : ListId) (l : StandsIn t hs sp) where
    stands : StandsAt s t sp
    stands = stands_at told.number s t sp hs told.homes.apart told.homes.shown l

    pub found_there : None ≡ taken_from t sp (held (home_at sp) hs) → ⊥
    found_there = not_none told.number s t sp hs stands told.homes.shown (stands_held t sp hs told.homes.apart l)

    module _ (r : ThreadRecord) (found : Some r ≡ taken_from t sp (held (home_at sp) hs)) where
      is_record : record_of t (thread_of s t) ≡ r
      is_record = is_taken told.number s t sp hs r stands told.homes.shown (stands_held t sp hs told.homes.apart l) found

      pub is_due : IsDue sp r.key
      is_due =
          subst (IsDue sp) (ap (λ (q : ThreadRecord). q.key) is_record)
          (subst (λ at. IsDue at (record_key (thread_of s t).place)) stands.list (due_at (thread_of s t).body.last (thread_of s t).place (naps_fit told.work told.number s told.reached t)))

      -- a body and a place that are those of the record and of its list are the thread's
      pub is_thread : (body : ThreadBody) (place : Place) → body ≡ r.body → IsPlaceAt sp r.key place → record { body = body; place = place } ≡ thread_of s t
      is_thread body place same at =
          let b : body ≡ (thread_of s t).body = same ∙ sym (ap (λ (q : ThreadRecord). q.body) is_record) in
          let p : place ≡ (thread_of s t).place = at (thread_of s t).body.last (thread_of s t).place stands.list (ap (λ (q : ThreadRecord). q.key) is_record) in
          (λ i. record { body = b i; place = p i })
