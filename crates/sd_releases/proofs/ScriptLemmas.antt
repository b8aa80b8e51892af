-- Scripts that are written line by line.
use Rattle.std.proofs.Common.{◌≡◌, List, [], ◌∷◌, ◌++◌, ap, ◌∙◌, append_assoc}
use Rattle.sd_tasks.specs.Written.{Written}

-- a first line, operations, and a last line
pub block_written : (old a b c ops : List Written) (x y : Written) → a ≡ old ++ x ∷ [] → b ≡ a ++ ops → c ≡ b ++ y ∷ [] → c ≡ old ++ (x ∷ (ops ++ y ∷ []))
block_written old a b c ops x y ha hb hc =
    hc ∙ ap (λ (l : List Written). l ++ y ∷ []) (hb ∙ ap (λ (l : List Written). l ++ ops) ha ∙ append_assoc old (x ∷ []) ops) ∙ append_assoc old (x ∷ ops) (y ∷ [])

-- and something before and behind the operations
pub script_written : (old a b c d e t ops h : List Written) (x y : Written) → a ≡ old ++ x ∷ [] → b ≡ a ++ t → c ≡ b ++ ops → d ≡ c ++ h → e ≡ d ++ y ∷ []
    → e ≡ old ++ (x ∷ (t ++ (ops ++ (h ++ y ∷ []))))
script_written old a b c d e t ops h x y ha hb hc hd he =
    he
    ∙ ap (λ (l : List Written). l ++ y ∷ [])
    (hd ∙ ap (λ (l : List Written). l ++ h) (hc ∙ ap (λ (l : List Written). l ++ ops) (hb ∙ ap (λ (l : List Written). l ++ t) ha ∙ append_assoc old (x ∷ []) t) ∙ append_assoc old (x ∷ t) ops)
    ∙ append_assoc old (x ∷ (t ++ ops)) h)
    ∙ append_assoc old (x ∷ ((t ++ ops) ++ h)) (y ∷ [])
    ∙ ap (λ (l : List Written). old ++ (x ∷ l)) (append_assoc (t ++ ops) h (y ∷ []) ∙ append_assoc t ops (h ++ y ∷ []))
