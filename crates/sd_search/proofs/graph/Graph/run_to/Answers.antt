use Rattle.sd_search.specs.Graphs.{packed, steps_of}
use Rattle.sd_search.proofs.DepthLemmas.{spelled_deep}
use Rattle.sd_search.proofs.FinalLemmas.{spelled_entries}
use Rattle.sd_search.proofs.TurnLemmas.{each_at}
use Rattle.sd_search.proofs.graph.Graph.run_to.Goals as goal

pub returns-clause-spelled : goal.returns-clause-spelled
returns-clause-spelled c = spelled_entries c.args.work.now (packed c.args.self.now) c.args.i c.in_ok-path.path.items c.deref.result.now c.witness.result c.in_ok-path.ensures.spelled c.deref.ensures.value c.witness.ensures

pub returns-clause-deep : goal.returns-clause-deep
returns-clause-deep c =
    let g = c.args.self.now in
    let w = c.args.work.now in
    let there = each_at w (packed g) (steps_of g) g.done c.requires.gathered c.args.i c.requires.inside in
    spelled_deep w (packed g) (steps_of g) c.args.i there.0 c.in_ok-path.path.items c.deref.result.now c.witness.result there.1 c.in_ok-path.ensures.deep c.in_ok-path.ensures.spelled c.deref.ensures.value c.witness.ensures
