use Rattle.sd_search.specs.Graphs.{packed, steps_of}
use Rattle.sd_search.specs.Questions.{HasPart}
use Rattle.sd_search.proofs.PathLemmas.{fit_at}
use Rattle.sd_search.proofs.TellLemmas.{tells_there}
use Rattle.sd_search.proofs.graph.Graph.is_asked.Goals as goal

pub has_part-requires : goal.has_part-requires
has_part-requires c = let g = c.args.self.now in record {
  fit = fit_at c.args.work.now (packed g) (steps_of g) g.done c.requires.gathered c.args.i c.in_ok-state.state c.in_ok-state.ensures;
}

pub returns : goal.returns
returns c = tells_there (packed c.args.self.now) c.args.i c.in_ok-state.state c.has_part.result (HasPart c.args.work.now c.args.question) c.in_ok-state.ensures c.has_part.ensures
