-- Homes of different numbers: a home that was guessed is the one, and one that changes stays apart from the others.
use Rattle.std.proofs.Common.{◌≡◌, ℕ, zero, suc, ◌<◌, Bool, true, false, is_some, inl, inr, List, [], ◌∷◌, length, get_or, set, slice_get, Option, Some, None, refl, sym, ap, ◌∙◌, subst, arith}
use Rattle.std.specs.Prelude.{slice_set}
use Rattle.std.proofs.lemmas.List.{set-get_or}
use Rattle.std.proofs.lemmas.Option.{slice_get-get_or}
use Rattle.sd_types.specs.declared.numbers.HomeId.{HomeId}
use Rattle.sd_homes.specs.declared.list_id.ListId.{ListId}
use Rattle.sd_homes.specs.Standing.{home_at}
use Rattle.sd_homes.specs.declared.home.Home.{Home}
use Rattle.sd_types.specs.declared.numbers.CpuId.{CpuId}
use Rattle.sd_machine.specs.Changes.{with_cpu_in, without_cpu}
use Rattle.sd_homes.specs.Families.{home_id, open_in, opened, same_home, shut, taken_from}
use Rattle.sd_hand.specs.Hands.{AreApart, HandSlots, HoldsMore, IsIn, IsSlot, StandsIn, edit, held, is_at}
use Rattle.sd_hand.proofs.SlotLemmas.{held_id, holds_more, same_home_true, same_slot, slot_at}
use Rattle.sd_hand.proofs.FoundLemmas.{listed_has}
use Rattle.sd_hand.proofs.PartLemmas.{opening_keeps}

-- ---- a slot that was guessed
at_held : (k : HomeId) (hs : List (Option Home)) (i : ℕ) → is_at k (get_or hs i None) ≡ true → held k hs ≡ None → ⊥
at_held k [] i e n = absurd cc
at_held k (None ∷ hs) zero e n = absurd cc
at_held k (Some h ∷ hs) zero e n = let some = rw e at n in absurd cc
at_held k (None ∷ hs) (suc i) e n = at_held k hs i e n
at_held k (Some h ∷ hs) (suc i) e n = by (same_home k (home_id h)) refl (λ m. at_held k hs i e m)
  where
    by : (b : Bool) → same_home k (home_id h) ≡ b → (held k hs ≡ None → ⊥) → ⊥
    by true f r = let some = rw f at n in absurd cc
    by false f r = r (rw f at n)

-- where no two have one number, those before it have another
apart_before : (k : HomeId) (hs : List (Option Home)) (i j : ℕ) → AreApart hs → is_at k (get_or hs i None) ≡ true → j < i → is_at k (get_or hs j None) ≡ false
apart_before k [] i j a e l = refl
apart_before k (x ∷ hs) zero j a e l = absurd (omega arith)
apart_before k (None ∷ hs) (suc i) zero a e l = refl
apart_before k (None ∷ hs) (suc i) (suc j) a e l = apart_before k hs i j a e (omega arith)
apart_before k (Some h ∷ hs) (suc i) zero a e l = by (same_home k (home_id h)) refl
  where
    by : (b : Bool) → same_home k (home_id h) ≡ b → b ≡ false
    by true f = absurd (at_held k hs i e (ap (λ z. held z hs) (same_home_true k (home_id h) f) ∙ a.0))
    by false f = refl
apart_before k (Some h ∷ hs) (suc i) (suc j) a e l = apart_before k hs i j a.1 e (omega arith)

pub slot_guessed : (k : HomeId) (hs : List (Option Home)) (i : ℕ) → AreApart hs → is_at k (get_or hs i None) ≡ true → IsSlot k hs i
slot_guessed k hs i a e = slot_at k hs i e (λ j l. apart_before k hs i j a e l)

-- ---- a list that was guessed
pub held_in : (k : HomeId) (h : Home) (hs : List (Option Home)) → held k hs ≡ Some h → IsIn h hs
held_in k h [] e = absurd cc
held_in k h (None ∷ hs) e = held_in k h hs e
held_in k h (Some g ∷ hs) e = by (same_home k (home_id g)) refl (held_in k h hs)
  where
    by : (b : Bool) → same_home k (home_id g) ≡ b → (held k hs ≡ Some h → IsIn h hs) → IsIn h (Some g ∷ hs)
    by true f r = let is = rw f at e in inl cc
    by false f r = inr (r (rw f at e))

pub stands_guessed : (t : ℕ) (at : ListId) (hs : List (Option Home)) → is_some (taken_from t at (held (home_at at) hs)) ≡ true → StandsIn t hs at
stands_guessed t at hs e = by (held (home_at at) hs) refl e
  where
    by : (o : Option Home) → held (home_at at) hs ≡ o → is_some (taken_from t at o) ≡ true → StandsIn t hs at
    by None f g = absurd cc
    by (Some h) f g = record {
      home = h;
      inside = held_in (home_at at) h hs f;
      listed = record { home = held_id (home_at at) h hs f; found = g; there = listed_has t h at g };
    }

-- ---- a home changes in its slot
pub lies : (hs : List (Option Home)) (i : ℕ) (m : Option Home) → i < length hs → m ≡ get_or hs i m → slice_get hs i ≡ Some m
lies hs i m inside e = slice_get-get_or hs i m inside ∙ ap Some (sym e)

abbrev pub ShowsSlots : HandSlots → List (Option Home) → Type 0
ShowsSlots x hs = record { slots = hs } ≡ x

pub slot_changed : (x : HandSlots) (hs : List (Option Home)) (k : HomeId) (i : ℕ) (h g : Home) (m : Option Home) (f : Home → Home) → ShowsSlots x hs → IsSlot k x.slots i
    → m ≡ get_or hs i m → m ≡ Some h → g ≡ f h → slice_set hs i (Some g) ≡ edit k f x.slots
slot_changed x hs k i h g m f shown =
    subst (λ y. IsSlot k y.slots i → m ≡ get_or hs i m → m ≡ Some h → g ≡ f h → slice_set hs i (Some g) ≡ edit k f y.slots) shown by
  where
    by : IsSlot k hs i → m ≡ get_or hs i m → m ≡ Some h → g ≡ f h → slice_set hs i (Some g) ≡ edit k f hs
    by slot e is made =
        let same : h ≡ slot.home = same_slot hs i m h slot.home (sym e ∙ is) slot.there in
        ap (λ z. slice_set hs i (Some z)) (made ∙ ap f same) ∙ sym (slot.edited f)

not_both : (d : Option Home) (h : Home) (hs : List (Option Home)) (i : ℕ) → get_or hs i d ≡ None → slice_get hs i ≡ Some (Some h) → ⊥
not_both d h [] i e there = absurd cc
not_both d h (z ∷ hs) zero e there = absurd cc
not_both d h (z ∷ hs) (suc i) e there = not_both d h hs i e there

pub slot_lost : (x : HandSlots) (hs : List (Option Home)) (k : HomeId) (i : ℕ) (m : Option Home) (f : Home → Home) → ShowsSlots x hs → IsSlot k x.slots i
    → m ≡ get_or hs i m → m ≡ None → slice_set hs i m ≡ edit k f x.slots
slot_lost x hs k i m f shown =
    subst (λ y. IsSlot k y.slots i → m ≡ get_or hs i m → m ≡ None → slice_set hs i m ≡ edit k f y.slots) shown
    (λ slot e none. absurd (not_both m slot.home hs i (sym e ∙ none) slot.there))

-- the home that lies there is the one that is held, and one lies there
pub held_here : (x : HandSlots) (hs : List (Option Home)) (k : HomeId) (i : ℕ) (h : Home) (m : Option Home) → ShowsSlots x hs → IsSlot k x.slots i → m ≡ get_or hs i m → m ≡ Some h → held k x.slots ≡ Some h
held_here x hs k i h m shown =
    subst (λ y. IsSlot k y.slots i → m ≡ get_or hs i m → m ≡ Some h → held k y.slots ≡ Some h) shown
    (λ slot e is. slot.first ∙ ap Some (sym (same_slot hs i m h slot.home (sym e ∙ is) slot.there)))

pub same_held : (x : HandSlots) (hs : List (Option Home)) (k : HomeId) (i : ℕ) (h g : Home) (m : Option Home) → ShowsSlots x hs → IsSlot k x.slots i → m ≡ get_or hs i m → m ≡ Some h
    → held k x.slots ≡ Some g → h ≡ g
same_held x hs k i h g m shown slot e is there = let here = held_here x hs k i h m shown slot e is in cc

-- a home that is as it was leaves all as it was
pub kept_here : (x : HandSlots) (hs : List (Option Home)) (i : ℕ) (h g : Home) (m : Option Home) → ShowsSlots x hs → m ≡ get_or hs i m → m ≡ Some h → g ≡ h → slice_set hs i (Some g) ≡ x.slots
kept_here x hs i h g m shown e is same = ap (λ o. slice_set hs i o) (ap Some same ∙ sym is) ∙ (ap (set hs i) e ∙ (set-get_or hs i m ∙ ap (λ (y : HandSlots). y.slots) shown))

-- a home that keeps its number stays apart
none_changed : (k : HomeId) (hs : List (Option Home)) (i : ℕ) (h g : Home) (d : Option Home) → get_or hs i d ≡ Some h → home_id g ≡ home_id h → held k hs ≡ None → held k (set hs i (Some g)) ≡ None
none_changed k [] i h g d e keeps n = refl
none_changed k (None ∷ hs) zero h g d e keeps n = absurd cc
none_changed k (Some z ∷ hs) zero h g d e keeps n = by (same_home k (home_id z)) refl
  where
    by : (b : Bool) → same_home k (home_id z) ≡ b → held k (Some g ∷ hs) ≡ None
    by true q = let some = rw q at n in absurd cc
    by false q =
        let one : z ≡ h = cc in
        let other : same_home k (home_id g) ≡ false = ap (same_home k) (keeps ∙ ap home_id (sym one)) ∙ q in
        rw other (rw q at n)
none_changed k (None ∷ hs) (suc i) h g d e keeps n = none_changed k hs i h g d e keeps n
none_changed k (Some z ∷ hs) (suc i) h g d e keeps n = by (same_home k (home_id z)) refl (none_changed k hs i h g d e keeps)
  where
    by : (b : Bool) → same_home k (home_id z) ≡ b → (held k hs ≡ None → held k (set hs i (Some g)) ≡ None) → held k (Some z ∷ set hs i (Some g)) ≡ None
    by true q r = let some = rw q at n in absurd cc
    by false q r = rw q (r (rw q at n))

apart_set : (hs : List (Option Home)) (i : ℕ) (h g : Home) (d : Option Home) → AreApart hs → get_or hs i d ≡ Some h → home_id g ≡ home_id h → AreApart (set hs i (Some g))
apart_set [] i h g d a e keeps = tt
apart_set (None ∷ hs) zero h g d a e keeps = absurd cc
apart_set (Some z ∷ hs) zero h g d a e keeps = let one : z ≡ h = cc in (ap (λ k. held k hs) (keeps ∙ ap home_id (sym one)) ∙ a.0, a.1)
apart_set (None ∷ hs) (suc i) h g d a e keeps = apart_set hs i h g d a e keeps
apart_set (Some z ∷ hs) (suc i) h g d a e keeps = (none_changed (home_id z) hs i h g d e keeps a.0, apart_set hs i h g d a.1 e keeps)

pub apart_changed : (hs : List (Option Home)) (i : ℕ) (h g : Home) (m : Option Home) → AreApart hs → m ≡ get_or hs i m → m ≡ Some h → home_id g ≡ home_id h → AreApart (slice_set hs i (Some g))
apart_changed hs i h g m a e is keeps = apart_set hs i h g m a (sym e ∙ is) keeps

-- ---- what keeps the number of a home
pub opened_keeps : (c : CpuId) (h : Home) → home_id (opened c h) ≡ home_id h
opened_keeps c h = opening_keeps (with_cpu_in c (open_in h)) h

pub shut_keeps : (c : CpuId) (h : Home) → home_id (shut c h) ≡ home_id h
shut_keeps c h = opening_keeps (without_cpu c (open_in h)) h

-- ---- the room of a hand
pub holds_shown : (x : HandSlots) (hs : List (Option Home)) (home : Home) (i : ℕ) → ShowsSlots x hs → slice_get hs i ≡ Some None → held (home_id home) x.slots ≡ None → HoldsMore x.slots home (slice_set hs i (Some home))
holds_shown x hs home i shown =
    subst (λ y. slice_get hs i ≡ Some None → held (home_id home) y.slots ≡ None → HoldsMore y.slots home (slice_set hs i (Some home))) shown
    (λ free none. holds_more home hs i free none)
