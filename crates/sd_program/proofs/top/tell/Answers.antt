use Rattle.sd_answers.specs.Answers.{line_of}
use Rattle.sd_answers.specs.StreamChanges.{change_of}
use Rattle.sd_answers.proofs.PutLemmas.{tells_of}
use Rattle.sd_program.proofs.top.tell.Goals as goal

pub returns-clause-told : goal.returns-clause-told
returns-clause-told g c =
    let told = g.E.Sink.contents in
    let faults = g.E.Sink.fault_count in
    let a = c.args.err.now in
    let b = c.put_line.new.err in
    tells_of (change_of (told a) (told b) (faults a) (faults b)) (line_of c.args.answer) c.put_line.result c.put_line.ensures.puts c.put_line.ensures.no_memory
