-- How the boxes of a queue point to one another.
use Rattle.std.specs.Prelude.{◌≡◌, Bool, true, false, List, [], ◌∷◌, map}
use denote.RawPtr.{Ptr}

-- where a box lies, its `next` and its `more`
abbrev pub Link : Type 0
Link = Ptr × Ptr × Bool

-- the links of boxes that are listed with their handles
abbrev pub links_of : {Z : Type 0} → List (Link × Z) → List Link
links_of = map (λ n. n.0)

-- whether there is an item
abbrev pub has_some : {X : Type 0} → List X → Bool
has_some [] = false
has_some (x ∷ xs) = true

-- h leads to the first box, each `next` but the last to the box after, t to the last box, and each `more` says whether
-- a box follows
abbrev pub IsChained : Ptr → Ptr → List Link → Type 0
IsChained h t [] = Unit {0}
IsChained h t (l ∷ []) = (h ≡ l.0) × (t ≡ l.0) × (l.2 ≡ false)
IsChained h t (l ∷ m ∷ ls) = (h ≡ l.0) × (l.2 ≡ true) × IsChained l.1 t (m ∷ ls)

-- the same, with nothing said of the last box
abbrev pub LeadsOn : Ptr → List Link → Type 0
LeadsOn h [] = Unit {0}
LeadsOn h (l ∷ ls) = (h ≡ l.0) × (l.2 ≡ has_some ls) × LeadsOn l.1 ls
