-- What the answers to `audit` give.
use Rattle.std.proofs.Common.{◌≡◌, ℕ, List, Some, subst}
use Rattle.sd_answers.specs.declared.answers.Answer.{Answer}
use Rattle.sd_answers.specs.declared.answers.Answer.TheVariants.{Done, Usage, TooLarge, TooLargeToAudit, NoJournal, Refused, ReadFault, WriteFault, OutOfMemory, Blocked, NotAJournal, TooLong}
use Rattle.sd_answers.specs.Answers.{status_of}
use Rattle.sd_answers.specs.Certificates.{CompletesCertificate, HoldsJournal, RefusesCertificate, RefusesFaulty, RefusesJournal}
use Rattle.sd_answers.specs.Languages.{workloads}
use Rattle.sd_answers.specs.StreamChanges.{StreamChange}
use Rattle.sd_answers.proofs.InputLemmas.{workloads_sound}
use Rattle.sd_answers.proofs.CertificateLemmas.{completes_of, faulty_of, refuses_certificate_of, refuses_faulty_of, writes_of}
use Rattle.sd_program.specs.declared.forms.Command.TheVariants.{Audit}
use Rattle.sd_program.specs.Forms.{command_of}
use Rattle.sd_program.specs.Headline.{CausedByCommand, Caused}
use Rattle.sd_program.specs.AuditAnswers.{legal_text, IsLegal, CertifiesInput, CausedByAudit}
use Rattle.sd_program.proofs.TopLemmas.{same_command, some_command}

-- the answer to `audit` has its cause
pub audit_of : (arguments : List (List ℕ)) (input out : StreamChange) (a : Answer) → command_of arguments ≡ Some Audit → Caused arguments input out a → CausedByAudit input out a
audit_of arguments input out Usage known c = absurd (some_command arguments Audit known c.0)
audit_of arguments input out Done known c = subst (λ k. CausedByCommand k input out Done) (same_command arguments c.0 Audit c.1 known) c.2
audit_of arguments input out TooLarge known c = subst (λ k. CausedByCommand k input out TooLarge) (same_command arguments c.0 Audit c.1 known) c.2
audit_of arguments input out TooLargeToAudit known c = subst (λ k. CausedByCommand k input out TooLargeToAudit) (same_command arguments c.0 Audit c.1 known) c.2
audit_of arguments input out NoJournal known c = subst (λ k. CausedByCommand k input out NoJournal) (same_command arguments c.0 Audit c.1 known) c.2
audit_of arguments input out (Refused line cause) known c = subst (λ k. CausedByCommand k input out (Refused line cause)) (same_command arguments c.0 Audit c.1 known) c.2
audit_of arguments input out ReadFault known c = subst (λ k. CausedByCommand k input out ReadFault) (same_command arguments c.0 Audit c.1 known) c.2
audit_of arguments input out WriteFault known c = subst (λ k. CausedByCommand k input out WriteFault) (same_command arguments c.0 Audit c.1 known) c.2
audit_of arguments input out OutOfMemory known c = subst (λ k. CausedByCommand k input out OutOfMemory) (same_command arguments c.0 Audit c.1 known) c.2
audit_of arguments input out Blocked known c = subst (λ k. CausedByCommand k input out Blocked) (same_command arguments c.0 Audit c.1 known) c.2
audit_of arguments input out (NotAJournal fault) known c = subst (λ k. CausedByCommand k input out (NotAJournal fault)) (same_command arguments c.0 Audit c.1 known) c.2
audit_of arguments input out TooLong known c = subst (λ k. CausedByCommand k input out TooLong) (same_command arguments c.0 Audit c.1 known) c.2

-- what is found legal is the journal of a run
held : (input : StreamChange) (n : ℕ) → IsLegal input n → HoldsJournal workloads input
held input n l = record { work = l.work; text = l.text; certificate = l.certificate; journal = (l.final, n, l.journal) }

module _ (input out : StreamChange) (a : Answer) (c : CausedByAudit input out a) where
  pub audits_of : status_of a ≡ 0 → CertifiesInput input out
  audits_of zero = writes_of workloads workloads_sound (IsLegal input) legal_text input out a c zero

  pub faults_of : status_of a ≡ 7 → RefusesJournal workloads input out
  faults_of seven = faulty_of workloads workloads_sound (IsLegal input) legal_text input out a c seven

  pub completes_audit_of : CompletesCertificate workloads input out (status_of a)
  completes_audit_of = completes_of workloads workloads_sound (IsLegal input) legal_text input out a c

  pub refuses_faulty_audit : RefusesFaulty workloads input (status_of a)
  refuses_faulty_audit = refuses_faulty_of workloads workloads_sound (IsLegal input) legal_text input out (held input) a c

  pub refuses_audit_of : RefusesCertificate workloads input (status_of a)
  refuses_audit_of = refuses_certificate_of workloads workloads_sound (IsLegal input) legal_text input out (held input) a c
