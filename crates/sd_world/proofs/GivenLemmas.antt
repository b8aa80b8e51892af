-- A home is given out or taken back, or one of those that are there changes: each still lies in the slot of its number.
use Rattle.std.proofs.Common.{◌≡◌, ◌≢◌, ℕ, ◌<◌, ◌⊎◌, zero, suc, List, [], ◌∷◌, length, get_or, set, slice_get, Option, Some, None, refl, sym, ap, ◌∙◌, subst, inl, inr}
use Rattle.std.specs.Prelude.{IfNone, IfSome}
use Rattle.std.proofs.lemmas.Bool.{cases_eq}
use Rattle.std.proofs.lemmas.List.{get_or-set_same, get_or-set_other, set-get_or, length-set}
use Rattle.std.proofs.lemmas.Option.{slice_get-get_or, slice_get_within, get_or_from_slice_get}
use Rattle.sd_types.specs.declared.numbers.HomeId.{HomeId}
use Rattle.sd_homes.specs.declared.home.Home.{Home}
use Rattle.sd_homes.specs.Families.{home_id}
use Rattle.sd_hand.specs.Hands.{HoldsMore, IsHeld, edit, held}
use Rattle.sd_hand.proofs.SlotLemmas.{holds_more}
use Rattle.sd_hand.proofs.GuideLemmas.{lies}
use Rattle.sd_world.specs.Homes.{AllHomes, ArePlaced, IsNumber, IsPlaced, Sizes, index_of}
use Rattle.sd_world.proofs.NumberLemmas.{no_slot_of_number, same_number, slot_of_number, within_by}

pub set_twice : {X : Type 0} (xs : List X) (i : ℕ) (x y : X) → set (set xs i x) i y ≡ set xs i y
set_twice [] i x y = refl
set_twice (z ∷ xs) zero x y = refl
set_twice (z ∷ xs) (suc i) x y = ap (λ ys. z ∷ ys) (set_twice xs i x y)

-- what lies in a slot after another one has changed lay there before
other_slot : (hs : List (Option Home)) (i j : ℕ) (o : Option Home) (h : Home) → j ≢ i → slice_get (set hs i o) j ≡ Some (Some h) → slice_get hs j ≡ Some (Some h)
other_slot hs i j o h other there =
    within_by hs j h (sym (get_or-set_other hs i j o None other) ∙ get_or_from_slice_get (set hs i o) j (Some h) None there)

same_slot : (hs : List (Option Home)) (i : ℕ) (o : Option Home) (h : Home) → slice_get (set hs i o) i ≡ Some (Some h) → o ≡ Some h
same_slot hs i o h there =
    let inside = slice_get_within (set hs i o) i (Some h) there in
    sym (get_or-set_same hs i o None (subst (λ n. i < n) (length-set hs i o) inside)) ∙ get_or_from_slice_get (set hs i o) i (Some h) None there

pub filled_placed : (z : Sizes) (hs : List (Option Home)) (i : ℕ) (g : Home) → ArePlaced z hs → IsPlaced z i g → ArePlaced z (set hs i (Some g))
filled_placed z hs i g placed new = record { many = length-set hs i (Some g) ∙ placed.many; each = λ j h there. by j h there (cases_eq j i) }
  where
    by : (j : ℕ) (h : Home) → slice_get (set hs i (Some g)) j ≡ Some (Some h) → (j ≡ i) ⊎ (j ≢ i) → IsPlaced z j h
    by j h there (inl is) =
        let here : Some g ≡ Some h = same_slot hs i (Some g) h (subst (λ k. slice_get (set hs i (Some g)) k ≡ Some (Some h)) is there) in
        let same : g ≡ h = cc in
        subst (λ k. IsPlaced z k h) (sym is) (subst (IsPlaced z i) same new)
    by j h there (inr other) = placed.each j h (other_slot hs i j (Some g) h other there)

pub emptied_placed : (z : Sizes) (hs : List (Option Home)) (i : ℕ) → ArePlaced z hs → ArePlaced z (set hs i None)
emptied_placed z hs i placed = record { many = length-set hs i None ∙ placed.many; each = λ j h there. by j h there (cases_eq j i) }
  where
    by : (j : ℕ) (h : Home) → slice_get (set hs i None) j ≡ Some (Some h) → (j ≡ i) ⊎ (j ≢ i) → IsPlaced z j h
    by j h there (inl is) = let none = same_slot hs i None h (subst (λ k. slice_get (set hs i None) k ≡ Some (Some h)) is there) in absurd cc
    by j h there (inr other) = placed.each j h (other_slot hs i j None h other there)

-- the home is taken from its slot, where one lies there
pub none_given : (z : Sizes) (hs : List (Option Home)) (k : HomeId) (i : ℕ) (o : Option Home) → ArePlaced z hs → i ≡ index_of z k → i < length hs → o ≡ get_or hs i o
    → IfNone o ((held k hs ≡ None) × (set hs i None ≡ hs))
none_given z hs k i None placed at inside e = (
  (no_slot_of_number z hs k placed (λ number. subst (λ j. slice_get hs j ≡ Some None) at (slice_get-get_or hs i None inside ∙ ap Some (sym e)))).none,
  ap (λ x. set hs i x) e ∙ set-get_or hs i None,
)
none_given z hs k i (Some h) placed at inside e = tt

pub home_given : (z : Sizes) (hs : List (Option Home)) (k : HomeId) (i : ℕ) (o : Option Home) → ArePlaced z hs → i ≡ index_of z k → IsNumber z k → i < length hs → o ≡ get_or hs i o
    → IfSome o (λ h. (home_id h ≡ k) × HoldsMore (set hs i None) h hs)
home_given z hs k i None placed at number inside e = tt
home_given z hs k i (Some h) placed at number inside e =
    let there : slice_get hs i ≡ Some (Some h) = slice_get-get_or hs i (Some h) inside ∙ ap Some (sym e) in
    let p = placed.each i h there in
    let rest = emptied_placed z hs i placed in
    let empty : slice_get (set hs i None) i ≡ Some None =
    slice_get-get_or (set hs i None) i None (subst (λ n. i < n) (sym (length-set hs i None)) inside) ∙ ap Some (get_or-set_same hs i None None inside) in
    let gone = (no_slot_of_number z (set hs i None) (home_id h) rest (λ n. subst (λ j. slice_get (set hs i None) j ≡ Some None) (sym p.index) empty)).none in
    let back : set (set hs i None) i (Some h) ≡ hs = set_twice hs i None (Some h) ∙ (ap (λ x. set hs i x) e ∙ set-get_or hs i (Some h)) in
    (same_number z (home_id h) k p.number number (p.index ∙ at), subst (λ xs. HoldsMore (set hs i None) h xs) back (holds_more h (set hs i None) i empty gone))

-- a home is taken back into its slot
pub home_back : (z : Sizes) (hs : List (Option Home)) (h : Home) (i : ℕ) → ArePlaced z hs → i ≡ index_of z (home_id h) → slice_get hs i ≡ Some None → HoldsMore hs h (set hs i (Some h))
home_back z hs h i placed at empty =
    holds_more h hs i empty (no_slot_of_number z hs (home_id h) placed (λ n. ap (slice_get hs) (sym at) ∙ empty)).none

-- The same of all homes as their type shows them.

abbrev pub Shown : AllHomes → Sizes → List (Option Home) → Type 0
Shown x z hs = record { sizes = z; slots = hs } ≡ x

abbrev pub IsIndex : AllHomes → HomeId → ℕ → Type 0
IsIndex x k i = (i ≡ index_of x.sizes k) × IsNumber x.sizes k

pub not_there : (x : AllHomes) (z : Sizes) (hs : List (Option Home)) (k : HomeId) → Shown x z hs → ArePlaced z hs → (IsNumber x.sizes k → ⊥) → held k x.slots ≡ None
not_there x z hs k shown placed = subst (λ y. (IsNumber y.sizes k → ⊥) → held k y.slots ≡ None) shown (λ never. (no_slot_of_number z hs k placed (λ n. absurd (never n))).none)

pub taken_none : (x : AllHomes) (z : Sizes) (hs : List (Option Home)) (k : HomeId) (i : ℕ) (o m q : Option Home) → Shown x z hs → ArePlaced z hs → IsIndex x k i → i < length x.slots
    → o ≡ m → m ≡ get_or hs i m → q ≡ None → IfNone o ((held k x.slots ≡ None) × (set hs i q ≡ x.slots))
taken_none x z hs k i o m q shown placed =
    subst (λ y. IsIndex y k i → i < length y.slots → o ≡ m → m ≡ get_or hs i m → q ≡ None → IfNone o ((held k y.slots ≡ None) × (set hs i q ≡ y.slots))) shown
    (λ at inside same is none. subst (λ p. IfNone o ((held k hs ≡ None) × (set hs i p ≡ hs))) (sym none)
    (subst (λ p. IfNone p ((held k hs ≡ None) × (set hs i None ≡ hs))) (sym same) (none_given z hs k i m placed at.0 inside is)))

pub taken_some : (x : AllHomes) (z : Sizes) (hs : List (Option Home)) (k : HomeId) (i : ℕ) (o m q : Option Home) → Shown x z hs → ArePlaced z hs → IsIndex x k i → i < length x.slots
    → o ≡ m → m ≡ get_or hs i m → q ≡ None → IfSome o (λ h. (home_id h ≡ k) × HoldsMore (set hs i q) h x.slots)
taken_some x z hs k i o m q shown placed =
    subst (λ y. IsIndex y k i → i < length y.slots → o ≡ m → m ≡ get_or hs i m → q ≡ None → IfSome o (λ h. (home_id h ≡ k) × HoldsMore (set hs i q) h y.slots)) shown
    (λ at inside same is none. subst (λ p. IfSome o (λ h. (home_id h ≡ k) × HoldsMore (set hs i p) h hs)) (sym none)
    (subst (λ p. IfSome p (λ h. (home_id h ≡ k) × HoldsMore (set hs i None) h hs)) (sym same) (home_given z hs k i m placed at.0 at.1 inside is)))

-- a home that is there changes
pub put_placed : (z : Sizes) (hs : List (Option Home)) (i : ℕ) (h g : Home) (m : Option Home) → ArePlaced z hs → i < length hs → m ≡ get_or hs i m → m ≡ Some h → home_id g ≡ home_id h → ArePlaced z (set hs i (Some g))
put_placed z hs i h g m placed inside e is same =
    let p = placed.each i h (lies hs i m inside e ∙ ap Some is) in
    filled_placed z hs i g placed (record { number = subst (IsNumber z) (sym same) p.number; index = ap (index_of z) same ∙ p.index })

pub put_moved : (x : AllHomes) (z : Sizes) (hs : List (Option Home)) (k : HomeId) (i : ℕ) (h g : Home) (m : Option Home) (f : Home → Home) → Shown x z hs → ArePlaced z hs → IsIndex x k i → i < length x.slots
    → m ≡ get_or hs i m → m ≡ Some h → g ≡ f h → set hs i (Some g) ≡ edit k f x.slots
put_moved x z hs k i h g m f shown placed =
    subst (λ y. IsIndex y k i → i < length y.slots → m ≡ get_or hs i m → m ≡ Some h → g ≡ f h → set hs i (Some g) ≡ edit k f y.slots) shown by
  where
    by : IsIndex (record { sizes = z; slots = hs }) k i → i < length hs → m ≡ get_or hs i m → m ≡ Some h → g ≡ f h → set hs i (Some g) ≡ edit k f hs
    by at inside e is made =
        let there : slice_get hs i ≡ Some (Some h) = lies hs i m inside e ∙ ap Some is in
        let slot = slot_of_number z hs k h placed at.1 (ap (slice_get hs) (sym at.0) ∙ there) in
        let both : Some (Some h) ≡ Some (Some slot.home) = sym there ∙ (ap (slice_get hs) at.0 ∙ slot.there) in
        let same : h ≡ slot.home = cc in
        (λ j. set hs (at.0 j) (Some ((made ∙ ap f same) j))) ∙ sym (slot.edited f)

pub put_lost : (x : AllHomes) (z : Sizes) (hs : List (Option Home)) (k : HomeId) (i : ℕ) (m : Option Home) (f : Home → Home) → Shown x z hs → ArePlaced z hs → IsIndex x k i → i < length x.slots
    → m ≡ get_or hs i m → m ≡ None → set hs i m ≡ edit k f x.slots
put_lost x z hs k i m f shown placed =
    subst (λ y. IsIndex y k i → i < length y.slots → m ≡ get_or hs i m → m ≡ None → set hs i m ≡ edit k f y.slots) shown
    (λ at inside e is. ap (λ o. set hs i o) e ∙ (set-get_or hs i m
    ∙ sym ((no_slot_of_number z hs k placed (λ n. subst (λ j. slice_get hs j ≡ Some None) at.0 (lies hs i m inside e ∙ ap Some is))).same f)))

pub put_nowhere : (x : AllHomes) (z : Sizes) (hs : List (Option Home)) (k : HomeId) (f : Home → Home) → Shown x z hs → ArePlaced z hs → (IsNumber x.sizes k → ⊥) → x.slots ≡ edit k f x.slots
put_nowhere x z hs k f shown placed = subst (λ y. (IsNumber y.sizes k → ⊥) → y.slots ≡ edit k f y.slots) shown (λ never. sym ((no_slot_of_number z hs k placed (λ n. absurd (never n))).same f))

pub given_back : (x : AllHomes) (z : Sizes) (hs : List (Option Home)) (h : Home) (k : HomeId) (i : ℕ) (m : Option Home) → Shown x z hs → ArePlaced z hs → IsIndex x k i → i < length x.slots
    → m ≡ get_or hs i m → m ≡ None → k ≡ home_id h → HoldsMore x.slots h (set hs i (Some h))
given_back x z hs h k i m shown placed =
    subst (λ y. IsIndex y k i → i < length y.slots → m ≡ get_or hs i m → m ≡ None → k ≡ home_id h → HoldsMore y.slots h (set hs i (Some h))) shown
    (λ at inside e is same. home_back z hs h i placed (at.0 ∙ ap (index_of z) same) (lies hs i m inside e ∙ ap Some is))

pub held_there : (x : AllHomes) (z : Sizes) (hs : List (Option Home)) (k : HomeId) (i : ℕ) (g : Home) (m : Option Home) → Shown x z hs → ArePlaced z hs → IsIndex x k i → i < length x.slots
    → m ≡ get_or hs i m → m ≡ Some g → IsHeld k x.slots
held_there x z hs k i g m shown placed =
    subst (λ y. IsIndex y k i → i < length y.slots → m ≡ get_or hs i m → m ≡ Some g → IsHeld k y.slots) shown
    (λ at inside e is. let slot = slot_of_number z hs k g placed at.1 (ap (slice_get hs) (sym at.0) ∙ (lies hs i m inside e ∙ ap Some is)) in (slot.home, slot.first))
