use Rattle.std.proofs.Common.{subst}
use Rattle.sd_state.specs.declared.states.State.{State}
use Rattle.sd_machine.specs.Runs.{IsComplete}
use Rattle.sd_search.specs.Graphs.{packed, steps_of}
use Rattle.sd_search.proofs.PathLemmas.{fit_at}
use Rattle.sd_search.proofs.TellLemmas.{at_same}
use Rattle.sd_search.proofs.graph.Graph.is_final.Goals as goal

pub is_complete-requires : goal.is_complete-requires
is_complete-requires c = let g = c.args.self.now in record {
  fit = fit_at c.args.work.now (packed g) (steps_of g) g.done c.requires.gathered c.args.i c.in_ok-state.state c.in_ok-state.ensures;
}

pub returns : goal.returns
returns c =
    let x = c.in_ok-state.state in
    let at = c.in_ok-state.ensures in
    let told = c.is_complete.ensures in (
      (λ yes. record { state = x; at = at; complete = told.0 yes }),
      (λ ends. told.1 (subst (λ (z : State). IsComplete c.args.work.now z) (at_same (packed c.args.self.now) c.args.i ends.state x ends.at at) ends.complete)),
    )
