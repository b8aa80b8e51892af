use Rattle.std.proofs.Common.{sym, ◌∙◌, arith}
use Rattle.std.proofs.lemmas.List.{length-map}
use Rattle.sd_longest.specs.Edges.{rows_of}
use Rattle.sd_longest.proofs.ReachedLemmas as R
use Rattle.sd_longest.proofs.heights.heights.Goals as goal

pub loop-init : goal.loop-init
loop-init c =
    let many = c.in_ok-heights.ensures.many in
    R.lowest (rows_of c.args.rows.now) c.in_ok-heights.heights.items (many ∙ sym (length-map c.args.rows.now (λ v. v.items)))
    (λ i inside. c.in_ok-heights.ensures.lowest i (omega (arith, many, inside)))
