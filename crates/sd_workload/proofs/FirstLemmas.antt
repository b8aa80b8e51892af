-- The verdict on a text, by indices.
use Rattle.std.proofs.Common.{◌≡◌, ℕ, zero, suc, ◌+◌, ◌<◌, ◌≤◌, ◌⊎◌, inl, inr, List, [], length, drop, get_or, Option, Some, None, refl, sym, ap, ◌∙◌, subst, arith, below_more}
use Rattle.std.proofs.lemmas.List.{drop_more, drop_all}
use Rattle.std.proofs.lemmas.List.Sums.{fold_more}
use Rattle.sd_lines.specs.Words.{Line}
use Rattle.sd_declare.specs.declared.causes.WorkCause.{WorkCause}
use Rattle.sd_declare.specs.Declarations.{Declarations}
use Rattle.sd_workload.specs.First.{Above, start, after, above, cause_at, cause_at_end, AreTaken, IsFirst, AllTaken}
use Rattle.sd_workload.specs.Texts.{Verdict, Accepts, Refuses, unless_refused, judged}
use Rattle.sd_workload.proofs.JudgedLemmas.{judged-end, judged-line}

-- the rest of the lines from an index on
abbrev from : List Line → ℕ → Verdict
from lines i = judged (i + 1) (above lines i).declared (above lines i).block (drop i lines)

from-line : (lines : List Line) (i : ℕ) → i < length lines → from lines i ≡ unless_refused (i + 1) (cause_at lines i) (from lines (i + 1))
from-line lines i h =
    judged-line (i + 1) (above lines i).declared (above lines i).block (drop i lines) (drop (i + 1) lines) (get_or lines i []) (drop_more lines i [] h)
    ∙ ap (λ (a : Above). unless_refused (i + 1) (cause_at lines i) (judged (i + 1 + 1) a.declared a.block (drop (i + 1) lines))) (sym (fold_more after start lines i [] h))

from-end : (lines : List Line) → from lines (length lines) ≡ unless_refused (length lines + 1) (cause_at_end lines) (Accepts (above lines (length lines)).declared)
from-end lines = judged-end (length lines + 1) (above lines (length lines)).declared (above lines (length lines)).block (drop (length lines) lines) (drop_all (length lines) lines (omega arith))

taken-to : (lines : List Line) (i : ℕ) → i ≤ length lines → AreTaken lines i → from lines 0 ≡ from lines i
taken-to lines zero h taken = refl
taken-to lines (suc i) h taken =
    let e : i + 1 ≡ suc i = omega arith in
    taken-to lines i (omega arith) (λ j l. taken j (omega arith))
    ∙ from-line lines i (omega arith)
    ∙ ap (λ o. unless_refused (i + 1) o (from lines (i + 1))) (taken i (omega arith))
    ∙ ap (from lines) e

-- the first that is refused, of the lines before an index
Found : List Line → ℕ → Type 0
Found lines n = AreTaken lines n ⊎ ((i : ℕ) × (cause : WorkCause) × (i < n) × AreTaken lines i × (cause_at lines i ≡ Some cause))

find : (lines : List Line) (n : ℕ) → Found lines n
unfolding Found
find lines zero = inl (λ i h. absurd (omega arith))
find lines (suc n) = elim (find lines n) [
  | inr f ↦ inr (f.0, f.1, omega (arith, f.2), f.3, f.4)
  | inl taken ↦ by (cause_at lines n) refl taken
]
  where
    by : (o : Option WorkCause) → cause_at lines n ≡ o → AreTaken lines n → AreTaken lines (suc n) ⊎ ((i : ℕ) × (cause : WorkCause) × (i < suc n) × AreTaken lines i × (cause_at lines i ≡ Some cause))
    by None e taken = inl (λ i h. below_more _ n taken e i (omega arith))
    by (Some cause) e taken = inr (n, cause, omega arith, taken, e)

pub accepted : (lines : List Line) (d : Declarations) → AllTaken lines d → from lines 0 ≡ Accepts d
accepted lines d a =
    taken-to lines (length lines) (omega arith) a.lines_taken ∙ from-end lines
    ∙ ap (λ o. unless_refused (length lines + 1) o (Accepts (above lines (length lines)).declared)) a.end_taken
    ∙ ap Accepts (sym a.declares)

pub refused : (lines : List Line) (line : ℕ) (cause : WorkCause) → IsFirst lines line cause → from lines 0 ≡ Refuses line cause
refused lines line cause (inl f) =
    taken-to lines f.0 (omega (arith, f.2)) f.3 ∙ from-line lines f.0 f.2
    ∙ ap (λ o. unless_refused (f.0 + 1) o (from lines (f.0 + 1))) f.4 ∙ ap (λ n. Refuses n cause) (sym f.1)
refused lines line cause (inr f) =
    taken-to lines (length lines) (omega arith) f.1 ∙ from-end lines
    ∙ ap (λ o. unless_refused (length lines + 1) o (Accepts (above lines (length lines)).declared)) f.2 ∙ ap (λ n. Refuses n cause) (sym f.0)

-- one of the two
answer : (lines : List Line) → AllTaken lines (above lines (length lines)).declared ⊎ ((line : ℕ) × (cause : WorkCause) × IsFirst lines line cause)
unfolding Found
answer lines = elim (find lines (length lines)) [
  | inr f ↦ inr (f.0 + 1, f.1, inl (f.0, refl, f.2, f.3, f.4))
  | inl taken ↦ by (cause_at_end lines) refl taken
]
  where
    by : (o : Option WorkCause) → cause_at_end lines ≡ o → AreTaken lines (length lines)
        → AllTaken lines (above lines (length lines)).declared ⊎ ((line : ℕ) × (cause : WorkCause) × IsFirst lines line cause)
    by None e taken = inl (record { lines_taken = taken; end_taken = e; declares = refl })
    by (Some cause) e taken = inr (length lines + 1, cause, inr (refl, taken, e))

pub apart : (d : Declarations) (line : ℕ) (cause : WorkCause) → Accepts d ≡ Refuses line cause → ⊥
apart d line cause e = cc

pub same-refusal : (n m : ℕ) (c e : WorkCause) → Refuses n c ≡ Refuses m e → (n ≡ m) × (c ≡ e)
same-refusal n m c e h = (cc, cc)

pub same-accepted : (d e : Declarations) → Accepts d ≡ Accepts e → d ≡ e
same-accepted d e h = cc

pub first-back : (lines : List Line) (line : ℕ) (cause : WorkCause) → from lines 0 ≡ Refuses line cause → IsFirst lines line cause
first-back lines line cause h = elim (answer lines) [
  | inl a ↦ absurd (apart _ line cause (sym (accepted lines _ a) ∙ h))
  | inr f ↦
      let same = same-refusal f.0 line f.1 cause (sym (refused lines f.0 f.1 f.2) ∙ h) in
      subst (λ (n : ℕ). IsFirst lines n cause) same.0 (subst (λ (c : WorkCause). IsFirst lines f.0 c) same.1 f.2)
]

pub taken-back : (lines : List Line) (d : Declarations) → from lines 0 ≡ Accepts d → AllTaken lines d
taken-back lines d h = elim (answer lines) [
  | inl a ↦ subst (AllTaken lines) (same-accepted _ d (sym (accepted lines _ a) ∙ h)) a
  | inr f ↦ absurd (apart d f.0 f.1 (sym h ∙ refused lines f.0 f.1 f.2))
]

-- a verdict is one of the two
pub either : (v : Verdict) → ((d : Declarations) × (v ≡ Accepts d)) ⊎ ((line : ℕ) × ((cause : WorkCause) × (v ≡ Refuses line cause)))
either (Accepts d) = inl (d, refl)
either (Refuses line cause) = inr (line, (cause, refl))
