use Rattle.std.proofs.Common.{ℕ, List, Result, sym, ap, subst}
use Rattle.std.specs.Prelude.{IfOk}
use Rattle.std.specs.declared.vec.Vec.{Vec}
use Rattle.std.specs.declared.alloc.Global.{Global}
use Rattle.sd_text.specs.Lines.{EndsLine}
use Rattle.sd_answers.specs.declared.answers.Answer.{Answer}
use Rattle.sd_answers.specs.StreamChanges.{Puts, TellsLine, change_of}
use Rattle.sd_answers.proofs.PutLemmas.{tells_of}
use Rattle.sd_viewer.specs.Viewing.{answer_line, viewed_line}
use Rattle.sd_viewer.proofs.top.tell.Goals as goal

pub returns-in-Ok-clause-told : goal.returns-in-Ok-clause-told
returns-in-Ok-clause-told g c =
    let held = g.E.Sink.contents in
    let faults = g.E.Sink.fault_count in
    let a = c.args.err.now in
    let b = c.put_text.new.out in
    let err = change_of (held a) (held b) (faults a) (faults b) in
    let line = c.in-Ok.lines.items in
    subst (TellsLine err) (sym (ap viewed_line c.in-Ok.is))
    (tells_of err line c.put_text.result
    (subst (λ (t : List ℕ). Puts (held a) (held b) (faults a) (faults b) t c.put_text.result) c.deref.ensures.value c.put_text.ensures.puts) c.put_text.ensures.no_memory)

pub returns-in-Err-clause-told : goal.returns-in-Err-clause-told
returns-in-Err-clause-told g c =
    let held = g.E.Sink.contents in
    let faults = g.E.Sink.fault_count in
    let a = c.args.err.now in
    let b = c.put_line_with.new.err in
    let err = change_of (held a) (held b) (faults a) (faults b) in
    subst (TellsLine err) (sym (ap viewed_line c.in-Err.is)) (tells_of err (answer_line c.in-Err.answer) c.put_line_with.result c.put_line_with.ensures.puts c.put_line_with.ensures.no_memory)

pub put_text-requires : goal.put_text-requires
put_text-requires g c =
    subst EndsLine (sym c.deref.ensures.value)
    (subst (λ (viewed : Result (Vec ℕ Global) Answer). IfOk viewed (λ lines. EndsLine lines.items)) c.in-Ok.is c.requires)
