-- Fields that are added one after another.
use Rattle.std.proofs.Common.{◌≡◌, ℕ, List, [], ◌∷◌, ◌++◌, append_assoc, refl, ◌∙◌}

three_fields : (xs : List (List ℕ)) (a b c : List ℕ) → ((xs ++ a ∷ []) ++ b ∷ []) ++ c ∷ [] ≡ xs ++ (a ∷ b ∷ c ∷ [])
three_fields xs a b c = simp append_assoc

four_fields : (xs : List (List ℕ)) (a b c d : List ℕ) → (((xs ++ a ∷ []) ++ b ∷ []) ++ c ∷ []) ++ d ∷ [] ≡ xs ++ (a ∷ b ∷ c ∷ d ∷ [])
four_fields xs a b c d = simp append_assoc

pub three_more : (xs all : List (List ℕ)) (a b c a' b' c' : List ℕ) → all ≡ ((xs ++ a ∷ []) ++ b ∷ []) ++ c ∷ [] → a ≡ a' → b ≡ b' → c ≡ c'
    → all ≡ xs ++ (a' ∷ b' ∷ c' ∷ [])
three_more xs all a b c a' b' c' is p q r = is ∙ three_fields xs a b c ∙ rw (p, q, r) refl

pub four_more : (xs all : List (List ℕ)) (a b c d a' b' c' d' : List ℕ) → all ≡ (((xs ++ a ∷ []) ++ b ∷ []) ++ c ∷ []) ++ d ∷ [] → a ≡ a' → b ≡ b' → c ≡ c' → d ≡ d'
    → all ≡ xs ++ (a' ∷ b' ∷ c' ∷ d' ∷ [])
four_more xs all a b c d a' b' c' d' is p q r s = is ∙ four_fields xs a b c d ∙ rw (p, q, r, s) refl
