use Rattle.std.proofs.Common.{length, arith}
use Rattle.sd_search.specs.Graphs.{packed}
use Rattle.sd_extremes.specs.Marks.{IsBelow}
use Rattle.sd_extremes.proofs.MarkLemmas.{none_yet, spans_of}
use Rattle.sd_extremes.proofs.scanning.scan.Goals as goal

pub loop-i-init : goal.loop-i-init
loop-i-init c = none_yet c.args.work.now (packed c.args.graph.now) c.args.thread

pub returns : goal.returns
returns c =
    let bs = packed c.args.graph.now in
    spans_of c.args.work.now bs c.args.thread (IsBelow c.loop-i.i) (IsBelow (length bs)) c.loop-i.span
    (λ m is few. let past = c.loop-i-test.false in let many = c.len-i-end.ensures in omega (arith, few, past, many)) c.loop-i.invariant
