use Rattle.std.proofs.Common.{◌≡◌, length}
use Rattle.sd_boxq.specs.Links.{has_some}
use Rattle.sd_boxq.specs.Order.{find_id}
use Rattle.sd_boxq.proofs.nodes.Nodes.find.Given as goal

abbrev pub invariant-loop-more : goal.invariant-loop-more
invariant-loop-more g l =
    (find_id g.T.Ranked.id l.id l.rest.rest ≡ find_id g.T.Ranked.id l.id l.self.items)
    × (l.more ≡ has_some l.rest.rest)

abbrev pub decreases-loop-more : goal.decreases-loop-more
decreases-loop-more g l = length l.rest.rest
