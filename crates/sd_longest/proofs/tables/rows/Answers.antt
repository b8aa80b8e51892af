use Rattle.sd_search.specs.Graphs.{packed}
use Rattle.sd_longest.proofs.RowLemmas.{rows_more}
use Rattle.sd_longest.proofs.tables.rows.Goals as goal

pub loop-i-preserved : goal.loop-i-preserved
loop-i-preserved c =
    let w = c.args.work.now in
    let bs = packed c.args.graph.now in
    rows_more w bs c.args.thread c.loop-i.i c.loop-i.rows.items c.push.new.self.items c.in_ok-row.row c.in_ok-push.ensures.items c.in_ok-row.ensures c.loop-i.invariant
