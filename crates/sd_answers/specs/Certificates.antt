-- What a program that judges a certificate (a workload in some language, the line `journal` and the journal of a run) answers.
-- Source: this project's own.
use Rattle.std.specs.Prelude.{◌≡◌, ℕ, ◌<◌, ◌≤◌, List, length, Some, Result, Ok, Err, ◌⊎◌}
use Rattle.std.specs.Io.KnownBytes.{Appends}
use Rattle.sd_types.specs.declared.works.Work.{Work}
use Rattle.sd_state.specs.declared.states.State.{State}
use Rattle.sd_answers.specs.Cuts.{HasNoJournal, IsCut}
use Rattle.sd_answers.specs.Languages.{Language}
use Rattle.sd_audit.specs.Audits.{IsFault, IsJournal}
use Rattle.sd_answers.specs.declared.answers.JournalFault.{JournalFault}
use Rattle.sd_answers.specs.declared.answers.Answer.{Answer}
use Rattle.sd_answers.specs.declared.answers.Answer.TheVariants.{Done, TooLarge, TooLargeToAudit, NoJournal, Refused, ReadFault, WriteFault, OutOfMemory, NotAJournal}
use Rattle.sd_answers.specs.Answers.{audit_fault}
use Rattle.sd_types.specs.Limits.{most_workload_bytes}
use Rattle.sd_types.specs.Limits.{most_certificate_bytes}
use Rattle.sd_answers.specs.Inputs.{IsCertificate, IsNoCertificate}
use Rattle.sd_answers.specs.StreamChanges.{StreamChange, HasFault, HasNoFault, IsUntouched, AppendsPart}

-- the text is the journal of a complete run of the workload
abbrev pub IsLegalJournal : List ℕ → Work → Type 0
IsLegalJournal text w = (s : State) × (n : ℕ) × IsJournal w text s n

-- the input is a workload and the journal of a complete run of it
pub record HoldsJournal (L : Language) (input : StreamChange) : Type 0 where
  pub work : Work
  pub text : List ℕ
  pub certificate : IsCertificate L input work text
  pub journal : IsLegalJournal text work

-- the input is a workload and a text that is not the journal of a complete run of it: this is first at fault
pub record IsFaulty (L : Language) (input : StreamChange) (fault : JournalFault) : Type 0 where
  pub work : Work
  pub text : List ℕ
  pub certificate : IsCertificate L input work text
  pub is : IsFault work text (audit_fault fault)

-- and nothing is written of it
abbrev pub RefusesJournal : Language → StreamChange → StreamChange → Type 0
RefusesJournal L input out = (fault : JournalFault) × IsFaulty L input fault × IsUntouched out

-- ---- the answer, where `Made` says of what is made of the run that it is, and `written` which text of it is written

-- what is made of the run whose journal the input holds, or why it holds none
abbrev pub IsJudged : {X : Type 0} → Language → (X → Type 0) → StreamChange → Result X Answer → Type 0
IsJudged L Made input (Ok made) = Made made
IsJudged L Made input (Err (NotAJournal fault)) = IsFaulty L input fault
IsJudged L Made input (Err a) = IsNoCertificate L input a

-- the text was written whole
abbrev pub Writes : {X : Type 0} → (X → Type 0) → (X → List ℕ) → StreamChange → Type 0
Writes {X} Made written out = (made : X) × Made made × Appends out.before out.after (written made) × HasNoFault out

-- the answer and its cause
abbrev pub CausedByCertificate : {X : Type 0} → Language → (X → Type 0) → (X → List ℕ) → StreamChange → StreamChange → Answer → Type 0
CausedByCertificate L Made written input out Done = Writes Made written out
CausedByCertificate L Made written input out TooLarge = IsNoCertificate L input TooLarge × IsUntouched out
CausedByCertificate L Made written input out TooLargeToAudit = IsNoCertificate L input TooLargeToAudit × IsUntouched out
CausedByCertificate L Made written input out NoJournal = IsNoCertificate L input NoJournal × IsUntouched out
CausedByCertificate L Made written input out (Refused line cause) = IsNoCertificate L input (Refused line cause) × IsUntouched out
CausedByCertificate L Made written input out ReadFault = IsNoCertificate L input ReadFault × IsUntouched out
CausedByCertificate L Made written input out (NotAJournal fault) = IsFaulty L input fault × IsUntouched out
CausedByCertificate {X} L Made written input out WriteFault = (made : X) × Made made × HasFault out × AppendsPart out.before out.after (written made)
CausedByCertificate L Made written input out OutOfMemory = IsNoCertificate L input OutOfMemory × IsUntouched out
CausedByCertificate L Made written input out _ = ⊥

-- ---- the other sides, of an input that tells its bytes

-- These are the bytes of the input: the text of a workload of no more bytes than it may have, the line `journal` and the text, of
-- which this holds with the workload that the part before this line spells.
pub record Certifies (L : Language) (bytes text : List ℕ) (P : Work → Type 0) : Type 0 where
  pub before : List ℕ
  pub many : length bytes ≤ most_certificate_bytes
  pub cut : IsCut bytes before text
  pub bound : length before ≤ most_workload_bytes
  pub work : Work
  pub accepted : L.Spells before work
  pub holds : P work

-- a text that is the journal of a complete run is found to be, unless memory runs out
abbrev pub CompletesCertificate : Language → StreamChange → StreamChange → ℕ → Type 0
CompletesCertificate L input out status =
    (HasFault input → ⊥) → (HasFault out → ⊥)
    → (bytes text : List ℕ) → input.before ≡ Some bytes → Certifies L bytes text (IsLegalJournal text) → (status ≡ 0) ⊎ (status ≡ 5)

-- and one that is not is found not to be
abbrev pub RefusesFaulty : Language → StreamChange → ℕ → Type 0
RefusesFaulty L input status =
    (HasFault input → ⊥)
    → (bytes text : List ℕ) → input.before ≡ Some bytes → Certifies L bytes text (λ w. IsLegalJournal text w → ⊥) → (status ≡ 7) ⊎ (status ≡ 5)

-- what is no certificate: it is too large, has no line `journal`, or what stands before this line is too large or no workload
abbrev pub IsNone : Language → List ℕ → Type 0
IsNone L bytes =
    (most_certificate_bytes < length bytes)
    ⊎ (HasNoJournal bytes ⊎ ((before : List ℕ) × (text : List ℕ) × IsCut bytes before text × ((most_workload_bytes < length before) ⊎ ((w : Work) → L.Spells before w → ⊥))))

abbrev pub RefusesCertificate : Language → StreamChange → ℕ → Type 0
RefusesCertificate L input status =
    (HasFault input → ⊥) → (bytes : List ℕ) → input.before ≡ Some bytes
    → (most_certificate_bytes < length bytes → status ≡ 2) × (IsNone L bytes → (status ≡ 2) ⊎ (status ≡ 5))
