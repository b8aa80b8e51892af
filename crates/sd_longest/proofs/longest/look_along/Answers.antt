use Rattle.std.proofs.Common.{get_or}
use Rattle.std.proofs.lemmas.Option.{slice_get-get_or}
use Rattle.sd_longest.specs.declared.edges.Edge.{Edge}
use Rattle.sd_longest.specs.declared.edges.Effect.TheVariants.{Opens}
use Rattle.sd_longest.specs.Edges.{rows_of}
use Rattle.sd_longest.proofs.CandidateLemmas.{along_last, along_more}
use Rattle.sd_longest.proofs.longest.look_along.Goals as goal

no_edge : Edge
no_edge = record { cpu = record { 0 = 0 }; tick = 0; effect = Opens; to = 0 }

pub loop-edge-preserved : goal.loop-edge-preserved
unfolding no_edge
loop-edge-preserved c =
    let row = c.row_of-row.result.now in
    let q = c.loop-edge.edge-index in
    along_more (rows_of c.args.rows.now) c.args.labels.now c.args.i c.args.label row q (get_or row q no_edge) c.row_of-row.ensures (slice_get-get_or row q no_edge c.loop-edge-test.true) c.requires.labelled c.loop-edge.best c.look-best.result c.look-best.ensures
    c.loop-edge.invariant

pub returns : goal.returns
returns c =
    along_last (rows_of c.args.rows.now) c.args.labels.now c.args.i c.args.label c.row_of-row.result.now c.loop-edge.edge-index c.loop-edge.best c.row_of-row.ensures c.requires.labelled c.loop-edge-test.false c.loop-edge.invariant
