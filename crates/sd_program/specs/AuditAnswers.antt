-- What stands behind an answer of the program to the argument `audit`.
-- Source: this project's own.
use Rattle.std.specs.Prelude.{ℕ, List, ◌++◌, codes, decimal, Result}
use Rattle.sd_types.specs.declared.works.Work.{Work}
use Rattle.sd_state.specs.declared.states.State.{State}
use Rattle.sd_audit.specs.Audits.{IsJournal}
use Rattle.sd_answers.specs.declared.answers.Answer.{Answer}
use Rattle.sd_answers.specs.Certificates.{CausedByCertificate, IsJudged, Writes}
use Rattle.sd_answers.specs.Inputs.{IsCertificate}
use Rattle.sd_answers.specs.Languages.{workloads}
use Rattle.sd_answers.specs.StreamChanges.{StreamChange}

-- the line that says that a journal is that of a complete run of so many entries
abbrev pub legal_text : ℕ → List ℕ
legal_text n = codes "legal " ++ (decimal n ++ codes "\n")

-- the input is a workload and the journal of a complete run of it, which has so many entries
pub record IsLegal (input : StreamChange) (n : ℕ) : Type 0 where
  pub work : Work
  pub text : List ℕ
  pub final : State
  pub certificate : IsCertificate workloads input work text
  pub journal : IsJournal work text final n

-- and the line that says so was written
abbrev pub CertifiesInput : StreamChange → StreamChange → Type 0
CertifiesInput input out = Writes (IsLegal input) legal_text out

-- how many entries the run has whose journal the input holds, or why it holds none
abbrev pub IsLegalReading : StreamChange → Result ℕ Answer → Type 0
IsLegalReading input entries = IsJudged workloads (IsLegal input) input entries

-- the answer to the argument `audit`
abbrev pub CausedByAudit : StreamChange → StreamChange → Answer → Type 0
CausedByAudit input out a = CausedByCertificate workloads (IsLegal input) legal_text input out a
