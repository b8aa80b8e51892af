use Rattle.std.proofs.Common.{◌≡◌, Some, get_or, length, refl, arith}
use Rattle.std.specs.Prelude.{slice_get}
use Rattle.std.proofs.lemmas.Option.{slice_get-get_or, slice_get_read}
use Rattle.sd_longest.specs.declared.edges.Edge.{Edge}
use Rattle.sd_longest.specs.declared.edges.Effect.TheVariants.{Opens}
use Rattle.sd_longest.specs.Edges.{rows_of}
use Rattle.sd_longest.proofs.MarkLemmas.{expanded, expanding_more, since_there}
use Rattle.sd_longest.proofs.marking.Marking.expand.Goals as goal

no_edge : Edge
no_edge = record { cpu = record { 0 = 0 }; tick = 0; effect = Opens; to = 0 }

pub pass-requires-clause-inside : goal.pass-requires-clause-inside
unfolding no_edge
pass-requires-clause-inside c =
    let row = c.row_of-row.result.now in
    let q = c.loop-edge.edge-index in
    let less = c.requires.inside c.index-i.result.now (get_or row q no_edge) (record { row = row; row_at = c.row_of-row.ensures; place = q; at = slice_get-get_or row q no_edge c.loop-edge-test.true }) in
    let many = c.loop-edge.invariant.marking.many in
    omega (arith, less, many)

pub loop-edge-preserved : goal.loop-edge-preserved
unfolding no_edge
loop-edge-preserved c =
    let row = c.row_of-row.result.now in
    let q = c.loop-edge.edge-index in
    let m = c.args.self.now in
    let first : slice_get m.order.items m.done ≡ Some c.index-i.result.now = slice_get_read m.order.items (length m.order.items) m.done c.index-i.result.now refl c.requires.more c.index-i.ensures in
    let since = since_there (rows_of c.args.rows.now) c.args.tick c.index-i.result.now c.label_at-label.result row q m c.loop-edge.self first c.loop-edge.invariant in
    expanding_more (rows_of c.args.rows.now) c.args.tick c.index-i.result.now c.label_at-label.result row c.row_of-row.ensures q (get_or row q no_edge) (slice_get-get_or row q no_edge c.loop-edge-test.true) m c.loop-edge.self c.pass.new.self c.loop-edge.invariant since
    c.in_ok-pass.ensures

pub returns-clause-marking : goal.returns-clause-marking
returns-clause-marking c =
    let m = c.args.self.now in
    let first : slice_get m.order.items m.done ≡ Some c.index-i.result.now = slice_get_read m.order.items (length m.order.items) m.done c.index-i.result.now refl c.requires.more c.index-i.ensures in
    expanded (rows_of c.args.rows.now) c.args.tick c.index-i.result.now c.label_at-label.result c.row_of-row.result.now c.row_of-row.ensures c.loop-edge.edge-index m c.loop-edge.self c.loop-edge-test.false first c.loop-edge.invariant
