-- A set of byte strings in the order in which they were put in.
-- Source: this project's own.
use Rattle.std.specs.Prelude.{◌≡◌, ℕ, Bool, true, false, List, [], ◌∷◌, ◌++◌, slice_get, Option, Some, None}

-- a string that stands nowhere goes last; else the strings stay
abbrev pub IsInserted : List (List ℕ) → List (List ℕ) → List ℕ → Bool → Type 0
IsInserted old new b true = (new ≡ old ++ b ∷ []) × ((i : ℕ) → slice_get old i ≡ Some b → ⊥)
IsInserted old new b false = (new ≡ old) × ((i : ℕ) × (slice_get old i ≡ Some b))

-- the place of a string; None where it stands nowhere
abbrev pub IsIndex : List (List ℕ) → List ℕ → Option ℕ → Type 0
IsIndex bs b (Some i) = slice_get bs i ≡ Some b
IsIndex bs b None = (i : ℕ) → slice_get bs i ≡ Some b → ⊥
