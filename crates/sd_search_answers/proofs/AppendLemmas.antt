-- Four texts appended one after another.
use Rattle.std.proofs.Common.{◌≡◌, ℕ, List, ◌++◌, append_assoc, ap, ◌∙◌}

regroup : (o a b c d : List ℕ) → (((o ++ a) ++ b) ++ c) ++ d ≡ o ++ (a ++ (b ++ (c ++ d)))
regroup o a b c d = simp append_assoc

pub joined : (o a b c d x y z u : List ℕ) → x ≡ o ++ a → y ≡ x ++ b → z ≡ y ++ c → u ≡ z ++ d → u ≡ o ++ (a ++ (b ++ (c ++ d)))
joined o a b c d x y z u p q r s =
    let first = ap (λ (t : List ℕ). t ++ b) p in
    let second = ap (λ (t : List ℕ). t ++ c) (q ∙ first) in
    let third = ap (λ (t : List ℕ). t ++ d) (r ∙ second) in
    s ∙ third ∙ regroup o a b c d
