use Rattle.sd_answers.specs.Answers.{unwritten_answer}
use Rattle.sd_answers.specs.Languages.{workloads}
use Rattle.sd_answers.specs.StreamChanges.{change_of}
use Rattle.sd_answers.proofs.HandingLemmas.{leaves_exit, leaves_unjudged, leaves_unwritten}
use Rattle.sd_program.specs.AuditAnswers.{IsLegal}
use Rattle.sd_program.proofs.audits.audit_input.Goals as goal

pub returns-in_err-entries-clause-leaves : goal.returns-in_err-entries-clause-leaves
returns-in_err-entries-clause-leaves g c =
    let left = g.S.Source.remaining in
    let read = g.S.Source.fault_count in
    let i = c.args.input.now in
    let j = c.judge_input.new.input in
    let input = change_of (left i) (left j) (read i) (read j) in
    let held = g.K.Sink.held_back c.args.out.now in
    let answer = c.in_err-entries.field-0.0 in
    leaves_exit c.from_residual.result answer held held c.from_residual.ensures.1 (leaves_unjudged workloads (IsLegal input) input answer held c.in_err-entries.ensures)

pub returns-in_err-print_legal-clause-leaves : goal.returns-in_err-print_legal-clause-leaves
returns-in_err-print_legal-clause-leaves g c =
    let held = g.K.Sink.held_back in
    let o = c.args.out.now in
    let p = c.print_legal.new.out in
    let unwritten = c.in_err-print_legal.field-0.0 in
    leaves_exit c.from_residual-in_err-print_legal.result (unwritten_answer unwritten) (held o) (held p) c.from_residual-in_err-print_legal.ensures.1
    (leaves_unwritten unwritten (held o) (held p) c.in_err-print_legal.ensures.leaves)
