-- Nothing is lacking where all homes are there, and a number that is out of range is that of nobody.
use Rattle.std.proofs.Common.{◌≡◌, ℕ, ◌<◌, ◌≤◌, ◌⊎◌, false, List, [], ◌∷◌, length, get_or, Some, sym, ap, ◌∙◌, subst, inl, inr}
use Rattle.std.proofs.lemmas.Bool.{cases_lt, false≢true}
use Rattle.std.proofs.lemmas.List.{get_or_past}
use Rattle.std.proofs.lemmas.Option.{slice_get-get_or}
use Rattle.sd_types.specs.declared.numbers.CpuId.{CpuId}
use Rattle.sd_types.specs.declared.numbers.ThreadId.{ThreadId}
use Rattle.sd_types.specs.declared.works.Work.{Work}
use Rattle.sd_state.specs.declared.states.State.{State}
use Rattle.sd_state.specs.States.{cpu_of, no_cpu, no_thread, thread_of}
use Rattle.sd_store.specs.declared.parts.Part.{Part}
use Rattle.sd_store.specs.Parts.{IsAmong, cpu_part, thread_part}
use Rattle.sd_hand.specs.declared.acting.Actor.{Actor}
use Rattle.sd_hand.specs.Acting.{IsShown, has_part}
use Rattle.sd_footprint.specs.There.{IsPartThere}
use Rattle.sd_footprint.proofs.ThereLemmas.{cpu_inside, known_reached}
use Rattle.sd_world.specs.declared.plain.PlainWorld.{PlainWorld}
use Rattle.sd_world.specs.Told.{IsActorOf}
use Rattle.sd_world.specs.Plain.{Stands, told}
use Rattle.sd_world.proofs.PlainLemmas as P

-- a part is lacking of those that each state needs which is shown
abbrev pub IsLacking : PlainWorld → (State → List Part) → Part → Type 0
IsLacking x parts q = ((n : ℕ) (s : State) → IsShown x.acting n s → IsAmong q (parts s)) × (has_part x.acting q ≡ false)

module _ (w : Work) (x : PlainWorld) (st : Stands w x) where
  abbrev IsThere : Part → Type 0
  IsThere p = IsPartThere (told w x) x.acting.actor.cpu p

  pub none_lacking : (parts : State → List Part) → ((p : Part) → IsAmong p (parts (told w x)) → IsThere p) → (q : Part) → IsLacking x parts q → ⊥
  none_lacking parts there q lack =
      let among = lack.0 (length x.entries.items) (told w x) (P.shown w x st) in
      false≢true (sym lack.1 ∙ P.has_there w x st q (there q among))

  one_there : (p : Part) → IsThere p → (q : Part) → IsAmong q (p ∷ []) → IsThere q
  one_there p there q (inl is) = subst IsThere (sym is) there
  one_there p there q (inr none) = absurd none

  pub not_lacking : (p : Part) → IsThere p → (q : Part) → IsLacking x (λ s. p ∷ []) q → ⊥
  not_lacking p there q lack = none_lacking (λ s. p ∷ []) (one_there p there) q lack

  -- the home of a processor
  pub cpu_in : (c : CpuId) → c.0 < w.cpus → IsThere (cpu_part c)
  cpu_in c inside = cpu_inside w (told w x) (known_reached w (length x.entries.items) (told w x) (P.reached w x st)) c inside

  -- a thread that is lacking is none of the state's
  pub nobody : (t : ThreadId) (q : Part) → IsLacking x (λ s. thread_part t ∷ []) q → thread_of (told w x) t.0 ≡ no_thread
  nobody t q lack = by (cases_lt t.0 (length (told w x).threads))
    where
      by : (t.0 < length (told w x).threads) ⊎ (length (told w x).threads ≤ t.0) → thread_of (told w x) t.0 ≡ no_thread
      by (inl inside) = absurd (not_lacking (thread_part t) inside q lack)
      by (inr past) = get_or_past (told w x).threads t.0 no_thread past

  -- a number past the list is none of the processors'
  pub no_processor : (c : ℕ) → length x.actors.items ≤ c → cpu_of (told w x) c ≡ no_cpu
  no_processor c past = get_or_past (told w x).cpus c no_cpu (subst (λ m. m ≤ c) st.actors.many past)

  -- the count and the duty of one that is found
  pub found_actor : (c : ℕ) (a : Actor) → c < length x.actors.items → a ≡ get_or x.actors.items c a → IsActorOf (told w x) c a
  found_actor c a inside is = st.actors.each c a (slice_get-get_or x.actors.items c a inside ∙ ap Some (sym is))
