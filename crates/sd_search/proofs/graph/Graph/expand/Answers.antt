use Rattle.sd_search.proofs.GrowLemmas.{expanded_after}
use Rattle.sd_search.proofs.graph.Graph.expand.Goals as goal

pub visit_all-requires-clause-at : goal.visit_all-requires-clause-at
visit_all-requires-clause-at c =
    c.in_ok-state.ensures

pub returns-clause-gathered : goal.returns-clause-gathered
returns-clause-gathered c =
    let g = c.args.self.now in
    let w = c.args.work.now in
    let at = c.in_ok-state.ensures in
    expanded_after w g c.visit_all.new.self c.in_ok-state.state at c.in_ok-visit_all.ensures.grown (rw c.if-not-branch.false at c.in_ok-visit_all.ensures.turned)
