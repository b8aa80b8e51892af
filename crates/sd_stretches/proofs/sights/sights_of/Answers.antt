use Rattle.std.proofs.Common.{List, [], ◌∷◌, ◌++◌, take, map, sym, ap, ◌∙◌}
use Rattle.sd_stretches.specs.declared.sights.Sight.{Sight}
use Rattle.sd_stretches.specs.Sights.{sight_of}
use Rattle.sd_stretches.proofs.RangeLemmas.{map_take_more}
use Rattle.sd_stretches.proofs.sights.sights_of.Goals as goal

pub loop-x-preserved : goal.loop-x-preserved
loop-x-preserved c =
    let threads = c.items-threads.result.now in
    let sofar = map sight_of (take c.loop-x.x-index threads) in
    c.in_ok-push.ensures.items
    ∙ ap (λ (xs : List Sight). xs ++ c.sight_of.result ∷ []) c.loop-x.invariant
    ∙ ap (λ (x : Sight). sofar ++ x ∷ []) (c.sight_of.ensures ∙ ap sight_of c.x-item.is)
    ∙ sym (map_take_more sight_of threads c.loop-x.x-index c.x-item.result c.loop-x-test.true)
