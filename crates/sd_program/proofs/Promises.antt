-- All that is promised of a call follows from the cause of its answer.
use Rattle.std.proofs.Common.{◌≡◌, ℕ, List, None, sym, subst, ◌∙◌}
use Rattle.std.specs.Prelude.{◌⊎◌, ◌↔◌}
use Rattle.sd_answers.specs.declared.answers.Answer.{Answer}
use Rattle.sd_answers.specs.Answers.{status_of}
use Rattle.sd_answers.specs.Certificates.{CompletesCertificate, RefusesCertificate, RefusesFaulty}
use Rattle.sd_answers.specs.Languages.{workloads}
use Rattle.sd_answers.specs.StreamChanges.{StreamChange}
use Rattle.sd_program.specs.Forms.{command_of}
use Rattle.sd_program.specs.Headline.{Caused, Tells, Completes, CompletesTables, Refuses, KeepsPromises}
use Rattle.sd_program.proofs.TopLemmas.{headline_of, blocked_of, tables_of, generates_of, completes_of, completes_tables_of, completes_generated_of, refuses_of, refuses_tables_of, usage_of}
use Rattle.sd_program.proofs.AuditLemmas.{audit_of, audits_of, faults_of, completes_audit_of, refuses_faulty_audit, refuses_audit_of}

pub promises_of : (arguments : List (List ℕ)) (input out err : StreamChange) (a : Answer) (status : ℕ) → status ≡ status_of a
    → Caused arguments input out a → Tells err a → KeepsPromises arguments input out err status
promises_of arguments input out err a status is caused told = record {
  answered = record { answer = a; status = is; caused = caused; told = told };
  headline = λ form known zero. headline_of arguments form input out a known caused (sym is ∙ zero);
  blocked = λ form known six. blocked_of arguments form input out a known caused (sym is ∙ six);
  tables = λ known zero. tables_of arguments input out a known caused (sym is ∙ zero);
  generates = λ n known zero. generates_of arguments n input out a known caused (sym is ∙ zero);
  audits = λ known zero. audits_of input out a (audit_of arguments input out a known caused) (sym is ∙ zero);
  faults = λ known seven. faults_of input out a (audit_of arguments input out a known caused) (sym is ∙ seven);
  completes = λ form known. subst (λ s. Completes form input out s) (sym is) (completes_of arguments form input out a known caused);
  completes_tables = λ known. subst (λ s. CompletesTables input out s) (sym is) (completes_tables_of arguments input out a known caused);
  completes_generated = λ n known sound. subst (λ s. (s ≡ 0) ⊎ (s ≡ 5)) (sym is) (completes_generated_of arguments n input out a known caused sound);
  completes_audit = λ known. subst (λ s. CompletesCertificate workloads input out s) (sym is) (completes_audit_of input out a (audit_of arguments input out a known caused));
  refuses = λ form known. subst (λ s. Refuses workloads input s) (sym is) (refuses_of arguments form input out a known caused);
  refuses_tables = λ known. subst (λ s. Refuses workloads input s) (sym is) (refuses_tables_of arguments input out a known caused);
  refuses_audit = λ known. subst (λ s. RefusesCertificate workloads input s) (sym is) (refuses_audit_of input out a (audit_of arguments input out a known caused));
  refuses_faulty = λ known. subst (λ s. RefusesFaulty workloads input s) (sym is) (refuses_faulty_audit input out a (audit_of arguments input out a known caused));
  usage = subst (λ s. (s ≡ 1) ↔ (command_of arguments ≡ None)) (sym is) (usage_of arguments input out a caused);
}
