use Rattle.sd_answers.proofs.PutLemmas.{Puts-handed}
use Rattle.sd_answers.proofs.writing.print_line.Goals as goal

pub returns-clause-puts : goal.returns-clause-puts
returns-clause-puts g c =
    let held = g.K.Sink.contents in
    let faults = g.K.Sink.fault_count in
    let o = c.args.out.now in
    let m = c.put_line-put.new.out in
    let p = c.hand_on.new.out in
    Puts-handed (held o) (held m) (held p) (faults o) (faults m) (faults p) c.args.line.now (g.K.Sink.held_back p) c.put_line-put.result c.hand_on.result c.put_line-put.ensures.puts c.hand_on.ensures
