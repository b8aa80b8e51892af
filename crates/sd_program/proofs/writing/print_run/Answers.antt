use Rattle.sd_answers.proofs.PutLemmas.{Puts-handed}
use Rattle.sd_program.specs.Forms.{text_of}
use Rattle.sd_program.proofs.writing.print_run.Goals as goal

pub returns-clause-puts : goal.returns-clause-puts
returns-clause-puts g c =
    let held = g.K.Sink.contents in
    let faults = g.K.Sink.fault_count in
    let o = c.args.out.now in
    let m = c.put_form-put.new.out in
    let p = c.hand_on.new.out in
    Puts-handed (held o) (held m) (held p) (faults o) (faults m) (faults p) (text_of c.args.form c.args.work.now c.args.entries.now.items) (g.K.Sink.held_back p) c.put_form-put.result
    c.hand_on.result c.put_form-put.ensures c.hand_on.ensures
