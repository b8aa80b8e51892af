use Rattle.std.proofs.Common.{◌≡◌, ◌-◌, ◌<◌, List, [], length, get_or, Some, arith}
use Rattle.std.specs.Prelude.{slice_get}
use Rattle.std.proofs.lemmas.List.{length-map}
use Rattle.std.proofs.lemmas.Option.{slice_get-get_or}
use Rattle.sd_longest.specs.declared.edges.Edge.{Edge}
use Rattle.sd_longest.specs.Edges.{rows_of}
use Rattle.sd_longest.proofs.ReachedLemmas.{given, raised, shorter}
use Rattle.sd_longest.proofs.heights.refresh.Goals as goal

pub loop-i-preserved : goal.loop-i-preserved
loop-i-preserved c =
    let rows = rows_of c.args.rows.now in
    let hs = c.loop-i.heights in
    let k = c.loop-i.i - 1 in
    let some = c.loop-i-test.true in
    let within = c.loop-i.auto.i in
    let many = c.loop-i.invariant.many in
    let all = length-map c.args.rows.now (λ v. v.items) in
    let inside : k < length rows = omega (arith, some, within, all) in
    let none : List Edge = [] in
    let row = get_or rows k none in
    let row_at : slice_get rows k ≡ Some row = slice_get-get_or rows k none inside in
    let way = given rows hs k c.height_at.result row row_at c.loop-i.invariant c.requires.lead (c.height_at.ensures row row_at) in
    raised rows hs k c.narrow.result (omega (arith, inside, many)) (shorter rows k c.narrow.result c.height_at.result c.narrow.ensures way) c.loop-i.invariant
