use Rattle.sd_answers.specs.Answers.{unwritten_answer}
use Rattle.sd_answers.proofs.HandingLemmas.{leaves_exit, leaves_unwritten}
use Rattle.sd_program.proofs.top.generate.Goals as goal

pub returns-in_err-print_generated-clause-leaves : goal.returns-in_err-print_generated-clause-leaves
returns-in_err-print_generated-clause-leaves g c =
    let held = g.K.Sink.held_back in
    let o = c.args.out.now in
    let p = c.print_generated.new.out in
    let unwritten = c.in_err-print_generated.field-0.0 in
    leaves_exit c.from_residual.result (unwritten_answer unwritten) (held o) (held p) c.from_residual.ensures.1 (leaves_unwritten unwritten (held o) (held p) c.in_err-print_generated.ensures.leaves)
