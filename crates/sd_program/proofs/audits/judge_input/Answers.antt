use Rattle.std.proofs.Common.{subst}
use Rattle.sd_answers.specs.Answers.{audit_answer}
use Rattle.sd_answers.specs.Languages.{workloads}
use Rattle.sd_answers.specs.StreamChanges.{change_of}
use Rattle.sd_audit.specs.Audits.{IsFault, IsJournal}
use Rattle.sd_answers.proofs.CertificateLemmas.{unjudged, judged_exit}
use Rattle.sd_program.specs.AuditAnswers.{IsLegal}
use Rattle.sd_program.proofs.audits.judge_input.Goals as goal

pub returns-in_err-entries : goal.returns-in_err-entries
returns-in_err-entries g c =
    let left = g.S.Source.remaining in
    let faults = g.S.Source.fault_count in
    let i = c.args.input.now in
    let j = c.read_certificate.new.input in
    let input = change_of (left i) (left j) (faults i) (faults j) in
    let found = c.in_ok-certificate.certificate in
    let fault = c.in_err-entries.field-0.0 in
    judged_exit workloads (IsLegal input) input c.from_residual-in_err-entries.result (audit_answer fault) c.from_residual-in_err-entries.ensures.1
    (unjudged workloads (IsLegal input) input found.work found.journal.items fault c.in_ok-certificate.ensures
    (subst (λ text. IsFault found.work text fault) c.deref.ensures.value c.in_err-entries.ensures.fault))

pub returns : goal.returns
returns g c =
    let found = c.in_ok-certificate.certificate in
    record {
      work = found.work;
      text = found.journal.items;
      final = c.in_ok-entries.field-0-0;
      certificate = c.in_ok-certificate.ensures;
      journal = subst (λ text. IsJournal found.work text c.in_ok-entries.field-0-0 c.in_ok-entries.entries) c.deref.ensures.value c.in_ok-entries.ensures.journal;
    }
