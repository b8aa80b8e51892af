use Rattle.std.proofs.Common.{◌≡◌, ◌∷◌}
use Rattle.sd_statistics.proofs.SpanLemmas.{greatest_all, greatest_more}
use Rattle.sd_statistics.proofs.inherited.greatest_inherited.Goals as goal

pub loop-x-preserved : goal.loop-x-preserved
loop-x-preserved c =
    let now : c.loop-x.left.now ≡ c.in-Some.x.now ∷ c.in-Some.rest.now = (rw c.in-Some.is at c.split_first.ensures.cases).0 in
    greatest_more c.loop-x.greatest _ _ c.inherited_priority.result c.in-Some.x.now c.loop-x.left.now c.in-Some.rest.now now c.loop-x.invariant c.inherited_priority.ensures c.greater-greatest.ensures

pub returns : goal.returns
returns c = greatest_all c.loop-x.greatest _ c.loop-x.left.now c.in_default.ensures.cases c.loop-x.invariant
