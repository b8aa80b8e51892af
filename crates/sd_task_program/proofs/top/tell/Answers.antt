use Rattle.sd_answers.specs.Answers.{line_with}
use Rattle.sd_answers.specs.StreamChanges.{change_of}
use Rattle.sd_answers.proofs.PutLemmas.{tells_of}
use Rattle.sd_task_program.specs.Promises.{usage_line}
use Rattle.sd_task_program.proofs.top.tell.Goals as goal

pub returns-clause-told : goal.returns-clause-told
returns-clause-told g c =
    let told = g.E.Sink.contents in
    let faults = g.E.Sink.fault_count in
    let a = c.args.err.now in
    let b = c.put_line_with.new.err in
    tells_of (change_of (told a) (told b) (faults a) (faults b)) (line_with usage_line c.args.answer) c.put_line_with.result c.put_line_with.ensures.puts
    c.put_line_with.ensures.no_memory
