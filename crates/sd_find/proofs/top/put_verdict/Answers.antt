use Rattle.std.proofs.Common.{List, ℕ, sym, ap, subst}
use Rattle.sd_answers.specs.StreamChanges.{Puts}
use Rattle.sd_find.specs.Seeking.{verdict_line}
use Rattle.sd_find.proofs.top.put_verdict.Goals as goal

pub returns-in-NoThread-clause-puts : goal.returns-in-NoThread-clause-puts
returns-in-NoThread-clause-puts g c =
    let held = g.E.Sink.contents in
    let faults = g.E.Sink.fault_count in
    let a = c.args.err.now in
    let b = c.put_line.new.out in
    subst (λ (line : List ℕ). Puts (held a) (held b) (faults a) (faults b) line c.put_line.result) (sym (ap verdict_line c.in-NoThread.is)) c.put_line.ensures.puts
