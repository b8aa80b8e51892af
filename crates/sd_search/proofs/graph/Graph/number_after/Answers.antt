use Rattle.std.proofs.Common.{ap}
use Rattle.sd_encoding.specs.Ranks.{ranked}
use Rattle.sd_search.specs.Graphs.{packed, steps_of}
use Rattle.sd_search.proofs.LookLemmas.{leads_there, never_missing}
use Rattle.sd_search.proofs.PathLemmas.{fit_at}
use Rattle.sd_search.proofs.TurnLemmas.{needs_here}
use Rattle.sd_search.proofs.graph.Graph.number_after.Goals as goal

pub take_turn-requires-clause-fit : goal.take_turn-requires-clause-fit
take_turn-requires-clause-fit c =
    let g = c.args.self.now in
    fit_at c.args.work.now (packed g) (steps_of g) g.done c.requires.gathered c.args.i c.args.from.now c.requires.at

pub take_turn-requires-clause-needs : goal.take_turn-requires-clause-needs
take_turn-requires-clause-needs c =
    let g = c.args.self.now in
    needs_here c.args.work.now (packed g) (steps_of g) g.done c.requires.gathered c.args.i c.args.from.now c.requires.at c.args.c c.args.event c.requires.makes

pub unreachable-requires : goal.unreachable-requires
unreachable-requires c =
    let g = c.args.self.now in
    never_missing c.args.work.now (packed g) (steps_of g) g.done c.requires.gathered c.args.i c.args.from.now c.requires.at c.args.c c.args.event (ranked c.take_turn.new.self.state) c.take_turn.new.self.bytes.items
    (ap ranked c.in_ok-take_turn.ensures.state) c.in_ok-take_turn.ensures.held c.in_ok-take_turn.ensures.bytes c.requires.expanded
    c.requires.makes c.index_of.result c.in-None.is (rw c.deref.ensures.value at c.index_of.ensures)

pub returns : goal.returns
returns c =
    let g = c.args.self.now in
    leads_there c.args.work.now (packed g) (steps_of g) g.done c.requires.gathered c.args.i c.args.from.now c.requires.at c.args.c c.args.event (ranked c.take_turn.new.self.state) c.take_turn.new.self.bytes.items
    (ap ranked c.in_ok-take_turn.ensures.state) c.in_ok-take_turn.ensures.held c.in_ok-take_turn.ensures.bytes c.in-Some.j (rw c.deref.ensures.value at c.in-Some.ensures)
