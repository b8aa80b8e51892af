-- The homes of a hand.
-- Source: this project's own.
use Rattle.std.specs.Prelude.{◌≡◌, ℕ, ◌+◌, ◌≤◌, Bool, false, ◌||◌, ◌⊎◌, List, [], ◌∷◌, Option, Some, None, Result, MatchResult, if◌then◌else◌, length, slice_get, slice_set, ⊤}
use Rattle.sd_types.specs.declared.numbers.HomeId.{HomeId}
use Rattle.sd_types.specs.declared.numbers.ThreadId.{ThreadId}
use Rattle.sd_store.specs.declared.parts.Part.{Part}
use Rattle.sd_store.specs.declared.parts.Part.TheVariants as part
use Rattle.sd_homes.specs.declared.list_id.ListId.{ListId}
use Rattle.sd_homes.specs.declared.list_id.ListId.TheVariants.{Runs}
use Rattle.sd_record.specs.Records.{ThreadRecord}
use Rattle.sd_homes.specs.Standing.{home_at}
use Rattle.sd_homes.specs.declared.home.Home.{Home}
use Rattle.sd_homes.specs.Families.{has, home_id, list_in, same_home, taken_from, taking}
use Rattle.sd_homes.specs.Kinds.{IsListed}

-- homes, each in a slot
pub record HandSlots : Type 0 where
  pub slots : List (Option Home)

-- the first home of this number
abbrev pub held : HomeId → List (Option Home) → Option Home
held k [] = None
held k (None ∷ hs) = held k hs
held k (Some h ∷ hs) = if same_home k (home_id h) then Some h else held k hs

-- whether it lies in this slot
abbrev pub is_at : HomeId → Option Home → Bool
is_at k None = false
is_at k (Some h) = same_home k (home_id h)

-- a change of it
abbrev pub edit : HomeId → (Home → Home) → List (Option Home) → List (Option Home)
edit k f [] = []
edit k f (None ∷ hs) = None ∷ edit k f hs
edit k f (Some h ∷ hs) = if same_home k (home_id h) then (Some (f h) ∷ hs) else (Some h ∷ edit k f hs)

-- it is in the slot of this index, or in none
pub record IsSlot (k : HomeId) (hs : List (Option Home)) (i : ℕ) : Type 0 where
  pub home : Home
  pub there : slice_get hs i ≡ Some (Some home)
  pub first : held k hs ≡ Some home
  pub edited : (f : Home → Home) → edit k f hs ≡ slice_set hs i (Some (f home))

pub record IsNoSlot (k : HomeId) (hs : List (Option Home)) : Type 0 where
  pub none : held k hs ≡ None
  pub same : (f : Home → Home) → edit k f hs ≡ hs

abbrev pub IsHeld : HomeId → List (Option Home) → Type 0
IsHeld k hs = (h : Home) × (held k hs ≡ Some h)

-- a home lies in each slot
abbrev pub AreTaken : List (Option Home) → Type 0
AreTaken [] = ⊤
AreTaken (None ∷ hs) = ⊥
AreTaken (Some h ∷ hs) = AreTaken hs

-- in how many slots a home lies
abbrev pub how_many_held : List (Option Home) → ℕ
how_many_held [] = 0
how_many_held (None ∷ hs) = how_many_held hs
how_many_held (Some h ∷ hs) = how_many_held hs + 1

-- one of the homes
abbrev pub IsIn : Home → List (Option Home) → Type 0
IsIn h [] = ⊥
IsIn h (None ∷ hs) = IsIn h hs
IsIn h (Some g ∷ hs) = (g ≡ h) ⊎ IsIn h hs

-- no two have one number
abbrev pub AreApart : List (Option Home) → Type 0
AreApart [] = ⊤
AreApart (None ∷ hs) = AreApart hs
AreApart (Some h ∷ hs) = (held (home_id h) hs ≡ None) × AreApart hs

-- a home lies in each slot, of which there are four at least
pub record HasNoRoom (hs : List (Option Home)) : Type 0 where
  pub four : 4 ≤ length hs
  pub all : how_many_held hs ≡ length hs

-- the slots of a hand: four at least, for a processor never needs more homes at once
pub record AreSlots (hs : List (Option Home)) : Type 0 where
  pub apart : AreApart hs
  pub four : 4 ≤ length hs

-- one of them has the thread
abbrev pub slot_has : ℕ → Option Home → Bool
slot_has t None = false
slot_has t (Some h) = has t h

abbrev pub has_thread : ℕ → List (Option Home) → Bool
has_thread t [] = false
has_thread t (slot ∷ hs) = slot_has t slot || has_thread t hs

-- it has the thread in this list
abbrev pub StandsInSlot : ℕ → Option Home → ListId → Type 0
StandsInSlot t None sp = ⊥
StandsInSlot t (Some h) sp = IsListed t (home_id h) (list_in h) (has t h) sp

-- one of them has the thread in this list
pub record StandsIn (t : ℕ) (hs : List (Option Home)) (sp : ListId) : Type 0 where
  pub home : Home
  pub inside : IsIn home hs
  pub listed : IsListed t (home_id home) (list_in home) (has t home) sp

-- this is the thread, which stands in a list of one of them
abbrev pub IsThreadHeld : ℕ → List (Option Home) → ThreadRecord → Type 0
IsThreadHeld t hs r = (sp : ListId) × StandsIn t hs sp × (Some r ≡ taken_from t sp (held (home_at sp) hs))

-- the home of this number was asked, or is lacking
abbrev pub Asks : {A B : Type 0} → HomeId → List (Option Home) → Result A Part → (A → B) → (Home → B) → Type 0
Asks k hs r g f = MatchResult r (λ a. (h : Home) × (held k hs ≡ Some h) × (g a ≡ f h)) (λ q. (q ≡ part.Home k) × (held k hs ≡ None))

-- two homes were asked, or one of them is lacking
abbrev pub AsksTwo : {A B : Type 0} → HomeId → HomeId → List (Option Home) → Result A Part → (A → B) → (Home → Home → B) → Type 0
AsksTwo k j hs r g f =
    MatchResult r (λ a. (h : Home) × (i : Home) × (held k hs ≡ Some h) × (held j hs ≡ Some i) × (g a ≡ f h i))
    (λ q. ((q ≡ part.Home k) × (held k hs ≡ None)) ⊎ ((q ≡ part.Home j) × (held j hs ≡ None)))

-- the thread was found, or is lacking
abbrev pub Seeks : {A : Type 0} → ThreadId → List (Option Home) → Result A Part → (A → Type 0) → Type 0
Seeks t hs r P = MatchResult r P (λ q. (q ≡ part.Thread t) × (has_thread t.0 hs ≡ false))

-- where at most one can stand, nobody does
abbrev pub IsRoom : ListId → List ThreadRecord → Type 0
IsRoom (Runs c) rs = rs ≡ []
IsRoom _ rs = ⊤

-- there is room in a list once the thread has left another
abbrev pub HasRoom : ℕ → ListId → ListId → List (Option Home) → Type 0
HasRoom t from to hs = (h : Home) → held (home_at to) (edit (home_at from) (taking t from) hs) ≡ Some h → IsRoom to (list_in h to)

-- one home more is held, of a number that none had
pub record HoldsMore (hs : List (Option Home)) (home : Home) (new : List (Option Home)) : Type 0 where
  pub before : held (home_id home) hs ≡ None
  pub here : held (home_id home) new ≡ Some home
  pub others : (k : HomeId) → (k ≡ home_id home → ⊥) → held k new ≡ held k hs
  pub apart : AreApart hs → AreApart new
  pub threads : (u : ℕ) → has_thread u new ≡ (has u home || has_thread u hs)
