-- What a hand with its processor shows.
use Rattle.std.proofs.Common.{◌≡◌, ℕ, true, is_some, List, Option, Some, None, option_map, sym, ap, ◌∙◌, subst, inl, inr, ◌⊎◌}
use Rattle.std.specs.Prelude.{Result, Ok, Err}
use Rattle.sd_types.specs.declared.numbers.HomeId.{HomeId}
use Rattle.sd_types.specs.declared.numbers.ThreadId.{ThreadId}
use Rattle.sd_state.specs.declared.states.State.{State}
use Rattle.sd_store.specs.declared.parts.Part.{Part}
use Rattle.sd_store.specs.declared.parts.Part.TheVariants as part
use Rattle.sd_store.specs.Parts.{IsAmong, number}
use Rattle.sd_store.specs.Words.{Finds, Lacks, Names, Tells}
use Rattle.sd_homes.specs.declared.list_id.ListId.{ListId}
use Rattle.sd_homes.specs.Standing.{home_at, look_of, Lists}
use Rattle.sd_homes.specs.declared.home.Home.{Home}
use Rattle.sd_homes.specs.Families.{has, list_in}
use Rattle.sd_hand.specs.declared.acting.Acting.{Acting}
use Rattle.sd_hand.specs.Acting.{IsShown, has_part, the_part}
use Rattle.sd_hand.specs.Hands.{Asks, AsksTwo, held}
use Rattle.sd_hand.proofs.SlotLemmas.{held_has, held_id}

pub list_shown : (x : Acting) (n : ℕ) (s : State) (sp : ListId) (h : Home) → IsShown x n s → held (home_at sp) x.hand.slots ≡ Some h → Lists n sp (list_in h sp) (look_of s)
list_shown x n s sp h sh e = (sh.homes (home_at sp) h e).lists sp (held_id (home_at sp) h x.hand.slots e)

module _ (x : Acting) where
  pub names_by : (k : HomeId) (f : Home → Option ℕ) (want : State → Option ℕ) (r : Result (Option ThreadId) Part) → Asks k x.hand.slots r (option_map number) f
      → ((n : ℕ) (s : State) (h : Home) → IsShown x n s → held k x.hand.slots ≡ Some h → want s ≡ f h) → Names (IsShown x) r want
  names_by k f want (Ok a) asks told = λ n s sh. asks.2 ∙ sym (told n s asks.0 sh asks.1)
  names_by k f want (Err q) asks told = tt

  pub tells_by : {A : Type 0} (k : HomeId) (f : Home → A) (want : State → A) (r : Result A Part) → Asks k x.hand.slots r (λ a. a) f
      → ((n : ℕ) (s : State) (h : Home) → IsShown x n s → held k x.hand.slots ≡ Some h → want s ≡ f h) → Tells (IsShown x) r want
  tells_by k f want (Ok a) asks told = λ n s sh. asks.2 ∙ sym (told n s asks.0 sh asks.1)
  tells_by k f want (Err q) asks told = tt

  pub lacks_by : {A B : Type 0} (k : HomeId) (g : A → B) (f : Home → B) (parts : State → List Part) (r : Result A Part) → Asks k x.hand.slots r g f
      → ((n : ℕ) (s : State) → IsShown x n s → IsAmong (part.Home k) (parts s)) → Lacks the_part (IsShown x) (has_part x) r parts
  lacks_by k g f parts (Ok a) asks among = tt
  lacks_by k g f parts (Err q) asks among = (λ n s sh. subst (λ p. IsAmong p (parts s)) (sym asks.0) (among n s sh), ap (has_part x) asks.0 ∙ ap is_some asks.1)

  pub finds_by : (k : HomeId) (f : Home → Option ℕ) (r : Result (Option ThreadId) Part) → Asks k x.hand.slots r (option_map number) f
      → ((h : Home) (t : ℕ) → f h ≡ Some t → has t h ≡ true) → Finds (has_part x) r
  finds_by k f (Ok None) asks there = tt
  finds_by k f (Ok (Some u)) asks there = held_has k u.0 asks.0 x.hand.slots asks.1 (there asks.0 u.0 (sym asks.2))
  finds_by k f (Err q) asks there = tt

  pub names_two : (k j : HomeId) (f : Home → Home → Option ℕ) (want : State → Option ℕ) (r : Result (Option ThreadId) Part) → AsksTwo k j x.hand.slots r (option_map number) f
      → ((n : ℕ) (s : State) (h g : Home) → IsShown x n s → held k x.hand.slots ≡ Some h → held j x.hand.slots ≡ Some g → want s ≡ f h g) → Names (IsShown x) r want
  names_two k j f want (Ok a) asks told = λ n s sh. asks.4 ∙ sym (told n s asks.0 asks.1 sh asks.2 asks.3)
  names_two k j f want (Err q) asks told = tt

  pub lacks_two : {A B : Type 0} (k j : HomeId) (g : A → B) (f : Home → Home → B) (parts : State → List Part) (r : Result A Part) → AsksTwo k j x.hand.slots r g f
      → ((n : ℕ) (s : State) → IsShown x n s → IsAmong (part.Home k) (parts s)) → ((n : ℕ) (s : State) → IsShown x n s → IsAmong (part.Home j) (parts s))
      → Lacks the_part (IsShown x) (has_part x) r parts
  lacks_two k j g f parts (Ok a) asks among other = tt
  lacks_two k j g f parts (Err q) (inl a) among other = (λ n s sh. subst (λ p. IsAmong p (parts s)) (sym a.0) (among n s sh), ap (has_part x) a.0 ∙ ap is_some a.1)
  lacks_two k j g f parts (Err q) (inr a) among other = (λ n s sh. subst (λ p. IsAmong p (parts s)) (sym a.0) (other n s sh), ap (has_part x) a.0 ∙ ap is_some a.1)

  pub finds_two : (k j : HomeId) (f : Home → Home → Option ℕ) (r : Result (Option ThreadId) Part) → AsksTwo k j x.hand.slots r (option_map number) f
      → ((h g : Home) (t : ℕ) → f h g ≡ Some t → (has t h ≡ true) ⊎ (has t g ≡ true)) → Finds (has_part x) r
  finds_two k j f (Ok None) asks there = tt
  finds_two k j f (Ok (Some u)) asks there = elim (there asks.0 asks.1 u.0 (sym asks.4)) [
    | inl a ↦ held_has k u.0 asks.0 x.hand.slots asks.2 a
    | inr b ↦ held_has j u.0 asks.1 x.hand.slots asks.3 b
  ]
  finds_two k j f (Err q) asks there = tt
