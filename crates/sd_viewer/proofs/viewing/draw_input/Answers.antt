use Rattle.std.proofs.Common.{◌≡◌, subst}
use Rattle.sd_audit.specs.Audits.{IsFault}
use Rattle.sd_answers.specs.Answers.{audit_answer}
use Rattle.sd_answers.specs.StreamChanges.{change_of}
use Rattle.sd_answers.proofs.CertificateLemmas.{unjudged, judged_exit}
use Rattle.sd_set_inputs.specs.Sets.{sets}
use Rattle.sd_set_inputs.specs.ToldTasks.{tasks_said}
use Rattle.sd_set_inputs.proofs.SetLemmas.{certificate_of}
use Rattle.sd_viewer.specs.Drawings.{IsDrawn, left_line}
use Rattle.sd_viewer.specs.declared.viewing.Drawn.{Drawn}
use Rattle.sd_viewer.specs.Viewing.{IsDrawnInput}
use Rattle.sd_viewer.proofs.viewing.draw_input.Goals as goal

pub returns-in_err-text : goal.returns-in_err-text
returns-in_err-text g c =
    let left = g.S.Source.remaining in
    let faults = g.S.Source.fault_count in
    let i = c.args.input.now in
    let j = c.read_certificate.new.input in
    let input = change_of (left i) (left j) (faults i) (faults j) in
    let found = c.in_ok-certificate.certificate in
    let fault = c.in_err-text.field-0.0 in
    let drawing = c.args.drawing.now in
    let Made = λ (d : Drawn). (of : IsDrawnInput drawing input d.text.items) × (d.line.items ≡ left_line drawing of.work) in
    judged_exit sets Made input c.from_residual-in_err-text.result (audit_answer fault) c.from_residual-in_err-text.ensures.1
    (unjudged sets Made input found.work found.journal.items fault
    (certificate_of input found.work (tasks_said found.tasks) found.journal.items c.in_ok-certificate.ensures)
    (subst (λ text. IsFault found.work text fault) c.deref.ensures.value c.in_err-text.ensures.fault))

pub returns : goal.returns
returns g c =
    let found = c.in_ok-certificate.certificate in (
      record {
        work = found.work;
        tasks = tasks_said found.tasks;
        journal = found.journal.items;
        certificate = c.in_ok-certificate.ensures;
        drawn = subst (λ text. IsDrawn c.args.drawing.now (tasks_said found.tasks) found.work text c.in_ok-text.text.items) c.deref.ensures.value c.in_ok-text.ensures.drawn;
      },
      c.in_ok-line.ensures,
    )
