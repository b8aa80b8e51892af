use Rattle.std.proofs.Common.{sym, ◌∙◌}
use Rattle.sd_search.specs.Graphs.{packed, steps_of}
use Rattle.sd_search.proofs.PathLemmas.{fit_at}
use Rattle.sd_search.proofs.graph.Graph.visit.Goals as goal

pub serial_next-event-requires-clause-fit : goal.serial_next-event-requires-clause-fit
serial_next-event-requires-clause-fit c = let g = c.args.self.now in fit_at c.args.work.now (packed g) (steps_of g) g.done c.requires.gathered c.args.i c.args.state.now c.requires.at

pub follow-requires-clause-makes : goal.follow-requires-clause-makes
follow-requires-clause-makes c = sym c.serial_next-event.ensures.event ∙ c.in-Some.is
