-- What an accepted set expands to.
use Rattle.std.proofs.Common.{◌≡◌, ℕ, ◌<◌, ◌≤◌, Bool, true, false, ltb, cond, List, length, Option, Some, None, refl, sym, subst, ap, ◌∙◌, arith}
use Rattle.std.proofs.lemmas.Bool.Decides.{nat_tests}
use Rattle.sd_types.specs.Limits.{most_workload_bytes}
use Rattle.sd_declare.specs.Declarations.{Declarations}
use Rattle.sd_declare.specs.declared.causes.WorkCause.{WorkCause}
use Rattle.sd_declare.specs.declared.causes.WorkCause.TheVariants.{Limits}
use Rattle.sd_workload.specs.Texts.{Verdict, Accepts, Refuses, verdict_of}
use Rattle.sd_tasks.specs.Readings.{Reading, reading_of}
use Rattle.sd_tasks.specs.Written.{Written, text_of}
use Rattle.sd_releases.specs.Verdicts.{SetVerdict, Expands, RefusesSet, unless_refused, end_verdict, whole, own_verdict, is_own, first_verdict, judged_fault, verdict_of_reading, set_verdict}

-- the lines are these, of no more bytes than a workload may have, and an accepted workload
pub record IsEnded (lines out : List Written) : Type 0 where
  pub same : lines ≡ out
  pub short : ltb most_workload_bytes (length (text_of lines)) ≡ false
  pub declares : Declarations
  pub accepted : verdict_of (text_of lines) ≡ Accepts declares

ended : (lines out : List Written) (number : ℕ) (b : Bool) (v : Verdict) → ltb most_workload_bytes (length (text_of lines)) ≡ b → verdict_of (text_of lines) ≡ v
    → cond b (RefusesSet number Limits) (unless_refused lines number v) ≡ Expands out → IsEnded lines out
ended lines out number true v size is h = absurd (let e : ⊥ = cc in e)
ended lines out number false (Accepts d) size is h = record { same = cc; short = size; declares = d; accepted = is }
ended lines out number false (Refuses line cause) size is h = absurd (let e : ⊥ = cc in e)

pub end-expands : (lines out : List Written) (number : ℕ) → end_verdict lines number ≡ Expands out → IsEnded lines out
end-expands lines out number h = ended lines out number (ltb most_workload_bytes (length (text_of lines))) (verdict_of (text_of lines)) refl refl h

own-expands : (r : Reading) (cause : Option WorkCause) (out : List Written) → own_verdict r cause ≡ Expands out → end_verdict (whole r) r.number ≡ Expands out
own-expands r None out h = h
own-expands r (Some cause) out h = absurd (let e : ⊥ = cc in e)

chosen : (b : Bool) (r : Reading) (line : ℕ) (cause : WorkCause) (out : List Written) → cond b (own_verdict r r.cause) (RefusesSet line cause) ≡ Expands out
    → end_verdict (whole r) r.number ≡ Expands out
chosen true r line cause out h = own-expands r r.cause out h
chosen false r line cause out h = absurd (let e : ⊥ = cc in e)

first-expands : (r : Reading) (fault : Option (ℕ × WorkCause)) (out : List Written) → first_verdict r fault ≡ Expands out → end_verdict (whole r) r.number ≡ Expands out
first-expands r None out h = own-expands r r.cause out h
first-expands r (Some fault) out h = chosen (is_own r fault) r fault.0 fault.1 out h

pub set-expands : (text : List ℕ) (out : List Written) → set_verdict text ≡ Expands out → IsEnded (whole (reading_of text)) out
unfolding set_verdict
set-expands text out h =
    let r = reading_of text in
    end-expands (whole r) out r.number (first-expands r (judged_fault r.seen.judged (verdict_of (text_of r.seen.judged))) out h)

pub set-accepted : (text : List ℕ) (out : List Written) → set_verdict text ≡ Expands out → (d : Declarations) × (verdict_of (text_of out) ≡ Accepts d)
set-accepted text out h =
    let e = set-expands text out h in
    (e.declares, ap (λ (lines : List Written). verdict_of (text_of lines)) (sym e.same) ∙ e.accepted)

short_of : (n : ℕ) → ltb most_workload_bytes n ≡ false → n ≤ most_workload_bytes
short_of n h = grind (arith, nat_tests)

pub set-short : (text : List ℕ) (out : List Written) → set_verdict text ≡ Expands out → length (text_of out) ≤ most_workload_bytes
set-short text out h =
    let e = set-expands text out h in
    subst (λ (lines : List Written). length (text_of lines) ≤ most_workload_bytes) e.same (short_of _ e.short)
