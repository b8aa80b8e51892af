-- That bytes tell a state, and what stands where in a list.
use Rattle.std.proofs.Common.{◌≡◌, ℕ, ◌<◌, List, length, Some, Bool, Result, Ok, Err, sym, ap, ◌∙◌, subst}
use Rattle.std.specs.Prelude.{◌↔◌, IfOk, IsTrue, slice_get}
use Rattle.std.proofs.lemmas.Option.{same_Some, slice_get_within}
use Rattle.sd_state.specs.declared.states.State.{State}
use Rattle.sd_encoding.specs.Encoding.{IsHeld, encoded}
use Rattle.sd_encoding.proofs.EncodingLemmas.{differ}
use Rattle.sd_search.specs.Graphs.{IsAt}

pub told : (x s : State) → IsHeld x → IsHeld s → encoded x ≡ encoded s → x ≡ s
told = differ

pub at_same : (bs : List (List ℕ)) (i : ℕ) (x y : State) → IsAt bs i x → IsAt bs i y → x ≡ y
at_same bs i x y a b = told x y a.held b.held (same_Some (encoded x) (encoded y) (sym a.bytes ∙ b.bytes))

pub inside_at : (bs : List (List ℕ)) (i : ℕ) (x : State) → IsAt bs i x → i < length bs
inside_at bs i x at = slice_get_within bs i (encoded x) at.bytes

-- what bytes that stand there spell is that state
pub read_there : {E : Type 0} (bs : List (List ℕ)) (i : ℕ) (b : List ℕ) (r : Result State E) → slice_get bs i ≡ Some b → IfOk r IsHeld → IfOk r (λ s. b ≡ encoded s) → IfOk r (IsAt bs i)
read_there bs i b (Ok s) at held bytes = record { bytes = at ∙ ap (λ (z : List ℕ). Some z) bytes; held = held }
read_there bs i b (Err e) at held bytes = tt

-- where the tests of a question are those of one state, they are those of each that stands there
pub tells_there : {E : Type 0} (bs : List (List ℕ)) (i : ℕ) (y : State) (r : Result Bool E) (P : State → Type 0) → IsAt bs i y → IfOk r (λ b. IsTrue b ↔ P y)
    → IfOk r (λ b. (x : State) → IsAt bs i x → IsTrue b ↔ P x)
tells_there bs i y (Ok b) P here tells = λ x at. subst (λ z. IsTrue b ↔ P z) (at_same bs i y x here at) tells
tells_there bs i y (Err e) P here tells = tt
