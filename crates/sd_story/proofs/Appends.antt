-- Texts that are appended one after another.
use Rattle.std.proofs.Common.{◌≡◌, ℕ, List, ◌++◌, Result, append_assoc, ap, ◌∙◌}
use Rattle.std.specs.Prelude.{OnOk}
use Rattle.std.proofs.lemmas.Result.{on_ok_weaker}

joined : (x a y b z : List ℕ) → y ≡ x ++ a → z ≡ y ++ b → z ≡ x ++ (a ++ b)
joined x a y b z first second = second ∙ ap (λ (text : List ℕ). text ++ b) first ∙ append_assoc x a b

pub append_two : {T E : Type 0} (r : Result T E) (x a y b z : List ℕ) → y ≡ x ++ a → OnOk r (z ≡ y ++ b) → OnOk r (z ≡ x ++ (a ++ b))
append_two r x a y b z first second = on_ok_weaker r (joined x a y b z first) second

pub append_three : {T E : Type 0} (r : Result T E) (x a y b z c u : List ℕ) → y ≡ x ++ a → z ≡ y ++ b → OnOk r (u ≡ z ++ c) → OnOk r (u ≡ x ++ ((a ++ b) ++ c))
append_three r x a y b z c u first second third = append_two r x (a ++ b) z c u (joined x a y b z first second) third

pub append_four : {T E : Type 0} (r : Result T E) (x a y b z c u d v : List ℕ)
    → y ≡ x ++ a → z ≡ y ++ b → u ≡ z ++ c → OnOk r (v ≡ u ++ d) → OnOk r (v ≡ x ++ (((a ++ b) ++ c) ++ d))
append_four r x a y b z c u d v first second third fourth =
    append_three r x (a ++ b) z c u d v (joined x a y b z first second) third fourth
