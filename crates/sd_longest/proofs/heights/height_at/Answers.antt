use Rattle.std.proofs.Common.{List, ◌∙◌, sym, subst, arith}
use Rattle.std.proofs.lemmas.List.{length-map}
use Rattle.std.proofs.lemmas.Option.{same_Some}
use Rattle.sd_longest.specs.declared.edges.Edge.{Edge}
use Rattle.sd_longest.specs.Edges.{IsEdge, rows_of}
use Rattle.sd_longest.specs.Heights.{IsHeight}
use Rattle.sd_longest.proofs.heights.height_at.Goals as goal

pub height_along-requires : goal.height_along-requires
height_along-requires c = λ place e at.
    let rows = rows_of c.args.rows.now in
    let is : IsEdge rows c.args.i e = record { row = c.row_of.result.now; row_at = c.row_of.ensures; place = place; at = at } in
    let lead = c.requires.lead c.args.i e is in
    let many = c.requires.many in
    let rest = length-map c.args.rows.now (λ v. v.items) in
    omega (arith, lead, many, rest)

pub returns : goal.returns
returns c = λ row at.
    subst (λ (r : List Edge). IsHeight c.args.heights.now r c.height_along.result) (same_Some c.row_of.result.now row (sym c.row_of.ensures ∙ at)) c.height_along.ensures
