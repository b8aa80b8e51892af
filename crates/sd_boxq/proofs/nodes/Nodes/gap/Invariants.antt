use Rattle.std.proofs.Common.{◌≡◌, length}
use Rattle.sd_boxq.specs.Links.{links_of, has_some}
use Rattle.sd_boxq.specs.Boxes.{boxes_from}
use Rattle.sd_boxq.specs.Search.{is_wanted, index_behind, IsBefore}
use Rattle.sd_boxq.proofs.Gaps.{Searched}
use Rattle.sd_boxq.proofs.nodes.Nodes.gap.Given as goal

abbrev pub invariant-loop-more : goal.invariant-loop-more
invariant-loop-more g l =
    Searched (is_wanted g.T.Ranked.rank g.T.Ranked.key g.T.Ranked.id l.wanted) (links_of l.self.blocks) l.self.items (index_behind l.before) (boxes_from l.rest.index l.rest.links l.rest.rest)
    × IsBefore (links_of l.self.blocks) l.before
    × (l.more ≡ has_some l.rest.rest)

abbrev pub decreases-loop-more : goal.decreases-loop-more
decreases-loop-more g l = length l.rest.rest
