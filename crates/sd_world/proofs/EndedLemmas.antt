-- Those who stand in the list of the ended threads of a processor have ended, and what is told of them is so.
use Rattle.std.proofs.Common.{◌≡◌, ℕ, zero, suc, List, [], ◌∷◌, ◌++◌, ◌⊎◌, inl, inr, Option, Some, None, refl, sym, ap, ◌∙◌, slice_get, slice_set, slice_index_or, map, subst, length, IfSome, ◌<◌}
use Rattle.std.proofs.lemmas.Option.{get_or_from_slice_get, slice_get-get_or}
use Rattle.sd_types.specs.declared.numbers.CpuId.{CpuId}
use Rattle.sd_types.specs.declared.numbers.HomeId.TheVariants as home
use Rattle.sd_record.specs.Records.{ThreadRecord}
use Rattle.sd_state.specs.declared.states.Place.{Place}
use Rattle.sd_state.specs.declared.states.Place.TheVariants.{Ended}
use Rattle.sd_state.specs.declared.states.State.{State}
use Rattle.sd_state.specs.States.{no_thread, thread_of}
use Rattle.sd_homes.specs.declared.list_id.ListId.TheVariants.{Ends}
use Rattle.sd_homes.specs.Standing.{id_of, list_at, look_of}
use Rattle.sd_homes.proofs.StandingLemmas.{stands_only, stood}
use Rattle.sd_homes.proofs.WaitShown.{IsIn, in-found}
use Rattle.sd_homes.specs.declared.home.Home.{Home}
use Rattle.sd_homes.specs.Families.{list_in}
use Rattle.sd_hand.specs.Hands.{held}
use Rattle.sd_hand.proofs.SlotLemmas.{held_id}
use Rattle.sd_world.specs.Told.{AreTold, IsToldBy, has_ended}

ended_place : (c last : CpuId) (place : Place) → Ends c ≡ list_at last place → place ≡ Ended
ended_place c last Ended e = refl
ended_place c last place e = absurd cc

-- the state has each of these threads, as one that has ended
abbrev pub HaveEnded : State → List ThreadRecord → Type 0
HaveEnded s [] = Unit {0}
HaveEnded s (x ∷ xs) = (record { body = x.body; place = Ended } ≡ thread_of s x.id.0) × HaveEnded s xs

module _ (hs : List (Option Home)) (s : State) (told : IsToldBy hs s) (c : CpuId) (h : Home) (is : held (home.Cpu c) hs ≡ Some h) where
  one : (x : ThreadRecord) → IsIn x (list_in h (Ends c)) → record { body = x.body; place = Ended } ≡ thread_of s x.id.0
  one x in_list =
      let lists = (told.homes.shown (home.Cpu c) h is).lists (Ends c) (held_id (home.Cpu c) h hs is) in
      let st = stood told.number (Ends c) (list_in h (Ends c)) (look_of s) (id_of x) x lists (in-found x (list_in h (Ends c)) lists.once in_list) in
      let here : thread_of s x.id.0 ≡ st.thread = get_or_from_slice_get s.threads x.id.0 st.thread no_thread st.there in
      let body : x.body ≡ st.thread.body = sym (ap (λ (r : ThreadRecord). r.body) st.is) in
      let place : Ended ≡ st.thread.place = sym (ended_place c st.thread.body.last st.thread.place (stands_only (Ends c) st.thread.body.last st.thread.place st.on)) in
      (λ i. record { body = body i; place = place i }) ∙ sym here

  each : (xs : List ThreadRecord) → ((x : ThreadRecord) → IsIn x xs → IsIn x (list_in h (Ends c))) → HaveEnded s xs
  each [] among = tt
  each (x ∷ xs) among = (one x (among x (inl refl)), each xs (λ y there. among y (inr there)))

  pub ended_there : HaveEnded s (list_in h (Ends c))
  ended_there = each (list_in h (Ends c)) (λ x there. there)

-- what stands in a list of options once one has changed
after : (xs : List (Option ThreadRecord)) (t u : ℕ) (o : Option ThreadRecord) (x : ThreadRecord) → slice_get (slice_set xs t o) u ≡ Some (Some x)
    → ((u ≡ t) × (o ≡ Some x)) ⊎ (slice_get xs u ≡ Some (Some x))
after [] t u o x e = absurd cc
after (z ∷ xs) zero zero o x e = inl (refl, cc)
after (z ∷ xs) zero (suc u) o x e = inr e
after (z ∷ xs) (suc t) zero o x e = inr e
after (z ∷ xs) (suc t) (suc u) o x e = by (after xs t u o x e)
  where
    by : ((u ≡ t) × (o ≡ Some x)) ⊎ (slice_get xs u ≡ Some (Some x)) → ((suc u ≡ suc t) × (o ≡ Some x)) ⊎ (slice_get xs u ≡ Some (Some x))
    by (inl both) = inl (ap suc both.0, both.1)
    by (inr there) = inr there

-- one more is told
one_told : (s : State) (xs : List (Option ThreadRecord)) (t : ℕ) (o : Option ThreadRecord) (r : ThreadRecord) → o ≡ Some r → has_ended r ≡ thread_of s t → AreTold s xs
    → AreTold s (slice_set xs t o)
one_told s xs t o r at is told u x e = by (after xs t u o x e)
  where
    by : ((u ≡ t) × (o ≡ Some x)) ⊎ (slice_get xs u ≡ Some (Some x)) → has_ended x ≡ thread_of s u
    by (inl both) = let same : r ≡ x = let b = both.1 in cc in ap has_ended (sym same) ∙ is ∙ ap (thread_of s) (sym both.0)
    by (inr there) = told u x there

-- the lists are of what is lent, and f tells what it is
module _ {X : Type 0} (f : X → Option ThreadRecord) where
  set_seen : (xs : List X) (t : ℕ) (x : X) → map f (slice_set xs t x) ≡ slice_set (map f xs) t (f x)
  set_seen [] t x = refl
  set_seen (y ∷ xs) zero x = refl
  set_seen (y ∷ xs) (suc t) x = ap (λ zs. f y ∷ zs) (set_seen xs t x)

  pub told_more : (s : State) (xs : List X) (t : ℕ) (x : X) (r : ThreadRecord) → f x ≡ Some r → has_ended r ≡ thread_of s t → AreTold s (map f xs) → AreTold s (map f (slice_set xs t x))
  told_more s xs t x r at is told = subst (AreTold s) (sym (set_seen xs t x)) (one_told s (map f xs) t (f x) r at is told)

  get_seen : (xs : List X) (t : ℕ) (x : X) → slice_get xs t ≡ Some x → slice_get (map f xs) t ≡ Some (f x)
  get_seen [] t x e = absurd cc
  get_seen (y ∷ xs) zero x e = let same : y ≡ x = cc in ap (λ z. Some (f z)) same
  get_seen (y ∷ xs) (suc t) x e = get_seen xs t x e

  still : (xs : List X) (x : X) → f x ≡ None → (u : ℕ) (r : ThreadRecord) → slice_get (map f (xs ++ x ∷ [])) u ≡ Some (Some r) → slice_get (map f xs) u ≡ Some (Some r)
  still [] x none zero r e = absurd cc
  still [] x none (suc u) r e = absurd cc
  still (y ∷ xs) x none zero r e = e
  still (y ∷ xs) x none (suc u) r e = still xs x none u r e

  -- a place where nothing is told is one more
  pub none_more : (xs : List X) (x : X) → f x ≡ None → (s : State) → AreTold s (map f xs) → AreTold s (map f (xs ++ x ∷ []))
  none_more xs x none s told u r e = told u r (still xs x none u r e)

  -- what was told of one
  pub was_told : (xs : List X) (t : ℕ) (m : X) → t < length xs → m ≡ slice_index_or xs t m → IfSome (f m) (λ r. (s : State) → AreTold s (map f xs) → has_ended r ≡ thread_of s t)
  was_told xs t m inside is = by (f m) refl
    where
      by : (o : Option ThreadRecord) → f m ≡ o → IfSome o (λ r. (s : State) → AreTold s (map f xs) → has_ended r ≡ thread_of s t)
      by None e = tt
      by (Some r) e = λ s told. told t r (get_seen xs t m (slice_get-get_or xs t m inside ∙ ap Some (sym is)) ∙ ap Some e)

pub told_then : (o : Option ThreadRecord) (s : State) (xs : List (Option ThreadRecord)) (t : ℕ) → IfSome o (λ r. (s : State) → AreTold s xs → has_ended r ≡ thread_of s t)
    → AreTold s xs → IfSome o (λ r. has_ended r ≡ thread_of s t)
told_then None s xs t is told = tt
told_then (Some r) s xs t is told = is s told
