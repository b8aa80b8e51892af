-- The verdict on lines, one line further on.
use Rattle.std.proofs.Common.{◌≡◌, ℕ, ◌+◌, Option, List, [], ◌∷◌, Some, None, refl, sym, ap, ◌∙◌, subst, arith}
use Rattle.sd_lines.specs.Words.{Line}
use Rattle.sd_lines.specs.Statements.{statement_of}
use Rattle.sd_declare.specs.declared.causes.WorkCause.{WorkCause}
use Rattle.sd_declare.specs.declared.causes.Refusal.{Refusal}
use Rattle.sd_declare.specs.declared.causes.Refusal.TheVariants.{Cause}
use Rattle.sd_declare.specs.declared.causes.Refusal.TheVariants as refused
use Rattle.sd_declare.specs.Declarations.{Declarations}
use Rattle.sd_declare.specs.Kept.{IsRefusal}
use Rattle.sd_workload.specs.declared.fault.WorkFault.{WorkFault}
use Rattle.sd_workload.specs.declared.fault.WorkFault.TheVariants.{At, Memory}
use Rattle.sd_workload.specs.LineStarts.{NoneAbove, IsFault, IsFaultAt, fault_of}
use Rattle.sd_workload.specs.Texts.{Block, Outside, cause_of, declared_after, block_after, end_cause, Verdict, Accepts, Refuses, unless_refused, judged}

pub judged-end : (n : ℕ) (d : Declarations) (b : Block) (lines : List Line) → lines ≡ []
    → judged n d b lines ≡ unless_refused n (end_cause d b) (Accepts d)
unfolding judged
judged-end n d b lines e = ap (judged n d b) e

pub judged-line : (n : ℕ) (d : Declarations) (b : Block) (lines below : List Line) (line : Line) → lines ≡ line ∷ below
    → judged n d b lines ≡ unless_refused n (cause_of d b line) (judged (n + 1) (declared_after d b line) (block_after d b line) below)
unfolding judged
judged-line n d b lines below line e = ap (judged n d b) e

-- a line that is not at fault
pub judged-on : (n m : ℕ) (d e : Declarations) (b c : Block) (lines below : List Line) (line : Line) → lines ≡ line ∷ below
    → cause_of d b line ≡ None → m ≡ n + 1 → e ≡ declared_after d b line → c ≡ block_after d b line → judged n d b lines ≡ judged m e c below
judged-on n m d e b c lines below line is none next declared block =
    judged-line n d b lines below line is
    ∙ ap (λ o. unless_refused n o (judged (n + 1) (declared_after d b line) (block_after d b line) below)) none
    ∙ sym (ap (λ k. judged k e c below) next ∙ ap (λ x. judged (n + 1) x c below) declared ∙ ap (λ x. judged (n + 1) (declared_after d b line) x below) block)

-- a line at fault
pub judged-stop : (n : ℕ) (d : Declarations) (b : Block) (lines below : List Line) (line : Line) (cause : WorkCause) → lines ≡ line ∷ below
    → cause_of d b line ≡ Some cause → judged n d b lines ≡ Refuses n cause
judged-stop n d b lines below line cause is some =
    judged-line n d b lines below line is
    ∙ ap (λ o. unless_refused n o (judged (n + 1) (declared_after d b line) (block_after d b line) below)) some

-- what is judged from a line on refuses none above it
none-unless : (n : ℕ) (o : Option WorkCause) (v : Verdict) → NoneAbove n v → NoneAbove n (unless_refused n o v)
none-unless n (Some cause) v h = omega arith
none-unless n None v h = h

none-less : (n : ℕ) (v : Verdict) → NoneAbove (n + 1) v → NoneAbove n v
none-less n (Accepts d) h = tt
none-less n (Refuses m cause) h = omega (arith, h)

pub none-above : (n : ℕ) (d : Declarations) (b : Block) (lines : List Line) → NoneAbove n (judged n d b lines)
unfolding judged
none-above n d b [] = none-unless n (end_cause d b) (Accepts d) tt
none-above n d b (line ∷ lines) =
    none-unless n (cause_of d b line) (judged (n + 1) (declared_after d b line) (block_after d b line) lines)
    (none-less n (judged (n + 1) (declared_after d b line) (block_after d b line) lines) (none-above (n + 1) (declared_after d b line) (block_after d b line) lines))

none-at : (n line : ℕ) (d : Declarations) (b : Block) (lines : List Line) → line ≡ n → NoneAbove line (judged n d b lines)
none-at n line d b lines at = subst (λ (k : ℕ). NoneAbove k (judged n d b lines)) (sym at) (none-above n d b lines)

-- the fault that a refusal is
pub refusal-at : (n : ℕ) (o : Option WorkCause) (r : Refusal) → IsRefusal o r → IsFaultAt n o (fault_of n r)
refusal-at n o (Cause c) h = (refl, h)
refusal-at n o refused.Memory h = refl

-- a fault on a line is the refusal of the lines from there on
pub fault-at : (n : ℕ) (d : Declarations) (b : Block) (lines below : List Line) (line : Line) (f : WorkFault) → lines ≡ line ∷ below
    → IsFaultAt n (cause_of d b line) f → IsFault (judged n d b lines) f
fault-at n d b lines below line (At l c) is h = judged-stop n d b lines below line c is h.1 ∙ ap (λ k. Refuses k c) (sym h.0)
fault-at n d b lines below line (Memory at) is h = none-at n at d b lines h

-- and so is one at the end
pub fault-end : (n : ℕ) (d : Declarations) (b : Block) (lines : List Line) (f : WorkFault) → lines ≡ [] → IsFaultAt n (end_cause d b) f → IsFault (judged n d b lines) f
fault-end n d b lines (At l c) is h =
    judged-end n d b lines is ∙ ap (λ o. unless_refused n o (Accepts d)) h.1 ∙ ap (λ k. Refuses k c) (sym h.0)
fault-end n d b lines (Memory at) is h = none-at n at d b lines h

pub fault-along : (v w : Verdict) (f : WorkFault) → v ≡ w → IsFault w f → IsFault v f
fault-along v w f e h = subst (λ (x : Verdict). IsFault x f) (sym e) h

-- ---- lines without words

pub blank-declared : (d : Declarations) (line : Line) → line ≡ [] → d ≡ declared_after d Outside line
unfolding declared_after statement_of
blank-declared d line h = sym (ap (declared_after d Outside) h)

pub blank-opened : (d : Declarations) (line : Line) → line ≡ [] → Outside ≡ block_after d Outside line
unfolding block_after statement_of
blank-opened d line h = sym (ap (block_after d Outside) h)
