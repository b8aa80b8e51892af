use Rattle.sd_search.specs.Graphs.{packed}
use Rattle.sd_search.proofs.FinalLemmas.{one_more}
use Rattle.sd_search.proofs.graph.Graph.finals.Goals as goal

pub loop-i-preserved : goal.loop-i-preserved
loop-i-preserved c =
    one_more c.args.work.now (packed c.args.self.now) c.loop-i.i c.in_ok-ends.ends c.loop-i.finals.items c.note.new.finals.items c.in_ok-ends.ensures c.loop-i.invariant c.in_ok-note.ensures
