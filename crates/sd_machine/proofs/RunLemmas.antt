-- Runs, one entry or one list of entries at a time.
use Rattle.std.proofs.Common.{◌≡◌, ℕ, ◌+◌, List, [], ◌∷◌, ◌++◌, length, take, drop, refl, sym, ◌∙◌, subst, arith}
use Rattle.std.proofs.lemmas.List.{take-append-drop}
use Rattle.sd_types.specs.declared.events.Entry.{Entry}
use Rattle.sd_types.specs.declared.works.Work.{Work}
use Rattle.sd_state.specs.declared.states.State.{State}
use Rattle.sd_machine.specs.Shapes.{FitsFully}
use Rattle.sd_machine.specs.Events.{after}
use Rattle.sd_state.specs.Opening.{opening}
use Rattle.sd_machine.specs.Runs.{final, IsStep, IsRunFrom, IsRun}
use Rattle.sd_machine.proofs.ShapeLemmas.{after_fits}

module _ (w : Work) where
  pub final-nil : (s : State) → final w s [] ≡ s
  unfolding final
  final-nil s = refl

  pub final-cons : (s : State) (e : Entry) (es : List Entry) → final w s (e ∷ es) ≡ final w (after w s e.number e.cpu e.event) es
  unfolding final
  final-cons s e es = refl

  pub final-append : (s : State) (es fs : List Entry) → final w s (es ++ fs) ≡ final w (final w s es) fs
  unfolding final
  final-append s [] fs = refl
  final-append s (e ∷ es) fs = final-append (after w s e.number e.cpu e.event) es fs

  pub IsRunFrom-append : (s : State) (n : ℕ) (es fs : List Entry) → IsRunFrom w s n es → IsRunFrom w (final w s es) (n + length es) fs → IsRunFrom w s n (es ++ fs)
  unfolding final IsRunFrom
  IsRunFrom-append s n [] fs r q = subst (λ k. IsRunFrom w s k fs) (let e : n + 0 ≡ n = omega arith in e) q
  IsRunFrom-append s n (e ∷ es) fs (a, b, r) q = (
    a,
    b,
    IsRunFrom-append (after w s e.number e.cpu e.event) (n + 1) es fs r
        (subst (λ k. IsRunFrom w (final w (after w s e.number e.cpu e.event) es) k fs) (let q : n + length (e ∷ es) ≡ n + 1 + length es = omega arith in q) q),
  )

  -- a prefix of a run is a run
  pub IsRunFrom-front : (s : State) (n : ℕ) (es fs : List Entry) → IsRunFrom w s n (es ++ fs) → IsRunFrom w s n es
  unfolding IsRunFrom
  IsRunFrom-front s n [] fs r = tt
  IsRunFrom-front s n (e ∷ es) fs (a, b, r) = (a, b, IsRunFrom-front (after w s e.number e.cpu e.event) (n + 1) es fs r)

  -- and what follows it a run from there
  pub IsRunFrom-rest : (s : State) (n : ℕ) (es fs : List Entry) → IsRunFrom w s n (es ++ fs) → IsRunFrom w (final w s es) (n + length es) fs
  unfolding final IsRunFrom
  IsRunFrom-rest s n [] fs r = subst (λ k. IsRunFrom w s k fs) (let e : n ≡ n + 0 = omega arith in e) r
  IsRunFrom-rest s n (e ∷ es) fs (a, b, r) =
      subst (λ k. IsRunFrom w (final w (after w s e.number e.cpu e.event) es) k fs) (let q : n + 1 + length es ≡ n + length (e ∷ es) = omega arith in q)
      (IsRunFrom-rest (after w s e.number e.cpu e.event) (n + 1) es fs r)

  pub IsRunFrom-one : (s : State) (n : ℕ) (e : Entry) → e.number ≡ n → IsStep w s e → IsRunFrom w s n (e ∷ [])
  unfolding IsRunFrom
  IsRunFrom-one s n e a b = (a, b, tt)

  pub IsRunFrom-nil : (s : State) (n : ℕ) → IsRunFrom w s n []
  unfolding IsRunFrom
  IsRunFrom-nil s n = tt

  -- the one entry of a run of one
  pub number_one : (s : State) (n : ℕ) (e : Entry) → IsRunFrom w s n (e ∷ []) → e.number ≡ n
  unfolding IsRunFrom
  number_one s n e r = r.0

  pub step_one : (s : State) (n : ℕ) (e : Entry) → IsRunFrom w s n (e ∷ []) → IsStep w s e
  unfolding IsRunFrom
  step_one s n e r = r.1

  pub IsRun-from : (es : List Entry) → IsRun w es → IsRunFrom w (opening w) 0 es
  unfolding IsRun
  IsRun-from es r = r

  pub from-IsRun : (es : List Entry) → IsRunFrom w (opening w) 0 es → IsRun w es
  unfolding IsRun
  from-IsRun es r = r

  -- a run goes on
  pub IsRun-append : (es fs : List Entry) → IsRun w es → IsRunFrom w (final w (opening w) es) (length es) fs → IsRun w (es ++ fs)
  unfolding IsRun
  IsRun-append es fs r q = IsRunFrom-append (opening w) 0 es fs r (subst (λ k. IsRunFrom w (final w (opening w) es) k fs) (let e : length es ≡ 0 + length es = omega arith in e) q)

  pub IsRun-nil : IsRun w []
  unfolding IsRun
  IsRun-nil = IsRunFrom-nil (opening w) 0

  pub final_fits : (s : State) (es : List Entry) → FitsFully w s → FitsFully w (final w s es)
  unfolding final
  final_fits s [] f = f
  final_fits s (e ∷ es) f = final_fits (after w s e.number e.cpu e.event) es (after_fits w s e.number e.cpu e.event f)

  pub final-one : (s : State) (e : Entry) → final w s (e ∷ []) ≡ after w s e.number e.cpu e.event
  unfolding final
  final-one s e = refl

  -- one entry more
  pub IsRunFrom-push : (s : State) (n : ℕ) (es : List Entry) (e : Entry) → IsRunFrom w s n es → e.number ≡ n + length es → IsStep w (final w s es) e → IsRunFrom w s n (es ++ e ∷ [])
  IsRunFrom-push s n es e r a b = IsRunFrom-append s n es (e ∷ []) r (IsRunFrom-one (final w s es) (n + length es) e a b)

  pub final-push : (s : State) (es : List Entry) (e : Entry) → final w s (es ++ e ∷ []) ≡ after w (final w s es) e.number e.cpu e.event
  final-push s es e = final-append s es (e ∷ []) ∙ final-one (final w s es) e

  pub last_number : (s : State) (n : ℕ) (es : List Entry) (e : Entry) → IsRunFrom w s n (es ++ e ∷ []) → e.number ≡ n + length es
  last_number s n es e r = number_one (final w s es) (n + length es) e (IsRunFrom-rest s n es (e ∷ []) r)

  pub last_step : (s : State) (n : ℕ) (es : List Entry) (e : Entry) → IsRunFrom w s n (es ++ e ∷ []) → IsStep w (final w s es) e
  last_step s n es e r = step_one (final w s es) (n + length es) e (IsRunFrom-rest s n es (e ∷ []) r)

  -- the first entries of a run are a run
  pub IsRunFrom-take : (s : State) (n k : ℕ) (es : List Entry) → IsRunFrom w s n es → IsRunFrom w s n (take k es)
  IsRunFrom-take s n k es r = IsRunFrom-front s n (take k es) (drop k es) (subst (λ xs. IsRunFrom w s n xs) (sym (take-append-drop k es)) r)
