use Rattle.std.proofs.Common.{◌≡◌, ◌∷◌}
use Rattle.sd_statistics.proofs.SpanLemmas.{longest_all, longest_more}
use Rattle.sd_statistics.proofs.spans.longest.Goals as goal

pub loop-x-preserved : goal.loop-x-preserved
loop-x-preserved c =
    let now : c.loop-x.left.now ≡ c.in-Some.x.now ∷ c.in-Some.rest.now = (rw c.in-Some.is at c.split_first.ensures.cases).0 in
    longest_more c.loop-x.best _ _ c.in-Some.x.now c.loop-x.left.now c.in-Some.rest.now now c.loop-x.invariant c.longer-best.ensures

pub returns : goal.returns
returns c = longest_all c.loop-x.best _ c.loop-x.left.now c.in_default.ensures.cases c.loop-x.invariant
