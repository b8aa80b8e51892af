use Rattle.std.proofs.Common.{sym, ap, subst}
use Rattle.sd_answers.specs.StreamChanges.{TellsLine, change_of}
use Rattle.sd_answers.proofs.PutLemmas.{tells_of}
use Rattle.sd_find.specs.Seeking.{answer_line, ended_line, verdict_line}
use Rattle.sd_find.proofs.top.report.Goals as goal

pub returns-in-Ok-clause-told : goal.returns-in-Ok-clause-told
returns-in-Ok-clause-told g c =
    let held = g.E.Sink.contents in
    let faults = g.E.Sink.fault_count in
    let a = c.args.err.now in
    let b = c.put_verdict.new.err in
    let err = change_of (held a) (held b) (faults a) (faults b) in
    subst (TellsLine err) (sym (ap ended_line c.in-Ok.is)) (tells_of err (verdict_line c.in-Ok.verdict) c.put_verdict.result c.put_verdict.ensures.puts c.put_verdict.ensures.no_memory)

pub returns-in-Err-clause-told : goal.returns-in-Err-clause-told
returns-in-Err-clause-told g c =
    let held = g.E.Sink.contents in
    let faults = g.E.Sink.fault_count in
    let a = c.args.err.now in
    let b = c.put_line_with.new.err in
    let err = change_of (held a) (held b) (faults a) (faults b) in
    subst (TellsLine err) (sym (ap ended_line c.in-Err.is)) (tells_of err (answer_line c.in-Err.answer) c.put_line_with.result c.put_line_with.ensures.puts c.put_line_with.ensures.no_memory)
