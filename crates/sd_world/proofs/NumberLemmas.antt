-- Homes in the slots of their numbers.
use Rattle.std.proofs.Common.{◌≡◌, ℕ, ◌+◌, ◌<◌, ◌≤◌, ◌⊎◌, zero, suc, Bool, true, false, List, [], ◌∷◌, length, get_or, Option, Some, None, refl, sym, ap, ◌∙◌, subst, inl, inr, arith, slice_get}
use Rattle.std.proofs.lemmas.Bool.{cases_lt, cases_Bool, false≢true}
use Rattle.std.proofs.lemmas.Option.{slice_get-get_or, get_or_from_slice_get}
use Rattle.sd_types.specs.declared.numbers.HomeId.{HomeId}
use Rattle.sd_types.specs.declared.numbers.HomeId.TheVariants as id
use Rattle.sd_homes.specs.declared.home.Home.{Home}
use Rattle.sd_homes.specs.Families.{home_id, same_home}
use Rattle.sd_hand.specs.Hands.{AreApart, IsHeld, IsNoSlot, IsSlot, held, is_at}
use Rattle.sd_hand.proofs.SlotLemmas.{held_id, no_slot, same_home_self, same_home_true, slot_at}
use Rattle.sd_world.specs.Homes.{ArePlaced, IsNumber, IsPlaced, Sizes, how_many, index_of}

-- two numbers of one index are one number
pub same_number : (z : Sizes) (k j : HomeId) → IsNumber z k → IsNumber z j → index_of z k ≡ index_of z j → k ≡ j
same_number z (id.Cpu c) (id.Cpu d) a b e = ap (λ n. id.Cpu (record { 0 = n })) e
same_number z (id.RealTime p) (id.RealTime q) a b e = let same : p.0 ≡ q.0 = omega arith in ap (λ n. id.RealTime (record { 0 = n })) same
same_number z (id.Chain i) (id.Chain j) a b e = let same : i ≡ j = omega arith in ap id.Chain same
same_number z (id.Sleepers i) (id.Sleepers j) a b e = let same : i ≡ j = omega arith in ap id.Sleepers same
same_number z k j a b e = absurd (omega arith)

pub index_below : (z : Sizes) (k : HomeId) → IsNumber z k → index_of z k < how_many z
index_below z (id.Cpu c) is = omega arith
index_below z (id.RealTime p) is = omega arith
index_below z (id.Chain i) is = omega arith
index_below z (id.Sleepers i) is = omega arith

-- the slot as the definitions read it
home_in_slot : (hs : List (Option Home)) (i : ℕ) (k : HomeId) → is_at k (get_or hs i None) ≡ true → (h : Home) × (get_or hs i None ≡ Some h) × (same_home k (home_id h) ≡ true)
home_in_slot hs i k e = by (get_or hs i None) refl e
  where
    by : (slot : Option Home) → get_or hs i None ≡ slot → is_at k slot ≡ true → (h : Home) × (get_or hs i None ≡ Some h) × (same_home k (home_id h) ≡ true)
    by (Some h) is at = (h, is, at)
    by None is at = absurd (false≢true at)

pub within_by : (hs : List (Option Home)) (i : ℕ) (h : Home) → get_or hs i None ≡ Some h → slice_get hs i ≡ Some (Some h)
within_by hs i h e = by (cases_lt i (length hs))
  where
    past : (xs : List (Option Home)) (n : ℕ) → length xs ≤ n → get_or xs n None ≡ None
    past [] n l = refl
    past (x ∷ xs) zero l = absurd (omega arith)
    past (x ∷ xs) (suc n) l = past xs n (omega arith)

    by : (i < length hs) ⊎ (length hs ≤ i) → slice_get hs i ≡ Some (Some h)
    by (inl inside) = slice_get-get_or hs i None inside ∙ ap Some e
    by (inr far) = let none = past hs i far in absurd cc

-- a home of this number lies in the slot of its index, and in no other
at_index : (z : Sizes) (hs : List (Option Home)) (k : HomeId) (j : ℕ) → ArePlaced z hs → is_at k (get_or hs j None) ≡ true → (j ≡ index_of z k) × IsNumber z k
at_index z hs k j placed e =
    let (h, is, at) = home_in_slot hs j k e in
    let p = placed.each j h (within_by hs j h is) in
    let same : k ≡ home_id h = same_home_true k (home_id h) at in
    (sym p.index ∙ ap (index_of z) (sym same), subst (IsNumber z) (sym same) p.number)

pub slot_of_number : (z : Sizes) (hs : List (Option Home)) (k : HomeId) (h : Home) → ArePlaced z hs → IsNumber z k → slice_get hs (index_of z k) ≡ Some (Some h) → IsSlot k hs (index_of z k)
slot_of_number z hs k h placed number there =
    let p = placed.each (index_of z k) h there in
    let same : home_id h ≡ k = same_number z (home_id h) k p.number number p.index in
    slot_at k hs (index_of z k)
    (ap (is_at k) (get_or_from_slice_get hs (index_of z k) (Some h) None there) ∙ (ap (same_home k) same ∙ same_home_self k))
    (λ j before. elim (cases_Bool (is_at k (get_or hs j None))) [
      | inl is ↦ let at = (at_index z hs k j placed is).0 in absurd (omega arith)
      | inr other ↦ other
    ])

pub no_slot_of_number : (z : Sizes) (hs : List (Option Home)) (k : HomeId) → ArePlaced z hs → (IsNumber z k → slice_get hs (index_of z k) ≡ Some None) → IsNoSlot k hs
no_slot_of_number z hs k placed empty = no_slot k hs (λ j inside. elim (cases_Bool (is_at k (get_or hs j None))) [
  | inl is ↦
      let (at, number) = at_index z hs k j placed is in
      let none : get_or hs j None ≡ None = get_or_from_slice_get hs j None None (ap (slice_get hs) at ∙ empty number) in
      absurd (false≢true (sym (ap (is_at k) none) ∙ is))
  | inr other ↦ other
])

-- a home that is held lies in a slot
pub held_slot : (k : HomeId) (hs : List (Option Home)) (h : Home) → held k hs ≡ Some h → (i : ℕ) × (slice_get hs i ≡ Some (Some h))
held_slot k [] h e = absurd cc
held_slot k (None ∷ hs) h e = let (i, is) = held_slot k hs h e in (suc i, is)
held_slot k (Some g ∷ hs) h e = by (same_home k (home_id g)) refl (λ f. held_slot k hs h f)
  where
    by : (b : Bool) → same_home k (home_id g) ≡ b → (held k hs ≡ Some h → (i : ℕ) × (slice_get hs i ≡ Some (Some h))) → (i : ℕ) × (slice_get (Some g ∷ hs) i ≡ Some (Some h))
    by true f r = let is = rw f at e in (0, ap Some is)
    by false f r = let (i, is) = r (rw f at e) in (suc i, is)

-- no two have one number, and each number is that of a home of the run
apart_from : (z : Sizes) (base : ℕ) (hs : List (Option Home)) → ((i : ℕ) (h : Home) → slice_get hs i ≡ Some (Some h) → IsPlaced z (base + i) h) → AreApart hs
apart_from z base [] placed = tt
apart_from z base (None ∷ hs) placed = apart_from z (base + 1) hs (λ i h e. subst (λ n. IsPlaced z n h) (let next : base + suc i ≡ base + 1 + i = omega arith in next) (placed (suc i) h e))
apart_from z base (Some h ∷ hs) placed =
    (none (held (home_id h) hs) refl, apart_from z (base + 1) hs (λ i g e. subst (λ n. IsPlaced z n g) (let next : base + suc i ≡ base + 1 + i = omega arith in next) (placed (suc i) g e)))
  where
    none : (o : Option Home) → held (home_id h) hs ≡ o → held (home_id h) hs ≡ None
    none None is = is
    none (Some g) is =
        let (i, there) = held_slot (home_id h) hs g is in
        let first = (placed 0 h refl).index in
        let later = (placed (suc i) g there).index in
        let same = ap (index_of z) (held_id (home_id h) g hs is) in
        absurd (omega arith)

pub placed_apart : (z : Sizes) (hs : List (Option Home)) → ArePlaced z hs → AreApart hs
placed_apart z hs placed = apart_from z 0 hs (λ i h e. subst (λ n. IsPlaced z n h) (let same : i ≡ 0 + i = omega arith in same) (placed.each i h e))

pub placed_only : (z : Sizes) (hs : List (Option Home)) (k : HomeId) → ArePlaced z hs → IsHeld k hs → IsNumber z k
placed_only z hs k placed (h, is) =
    let (i, there) = held_slot k hs h is in
    subst (IsNumber z) (sym (held_id k h hs is)) (placed.each i h there).number
