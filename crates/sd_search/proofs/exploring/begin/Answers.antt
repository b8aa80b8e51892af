use Rattle.std.proofs.Common.{◌++◌, ◌∷◌, [], List, refl, ap, ◌∙◌}
use Rattle.sd_encoding.specs.Ranks.{ranked}
use Rattle.sd_search.specs.declared.graph.Step.{Step}
use Rattle.sd_search.specs.Graphs.{packed}
use Rattle.sd_search.proofs.TurnLemmas.{begun}
use Rattle.sd_search.proofs.StoreLemmas.{no_items}
use Rattle.sd_search.proofs.exploring.begin.Goals as goal

pub returns-clause-gathered : goal.returns-clause-gathered
returns-clause-gathered c =
    let none = no_items c.new-states.result.keys c.new-states.ensures.empty in
    let step : Step = record { before = 0; cpu = record { 0 = 0 } } in
    let one = c.in_ok-push.ensures.items ∙ ap (λ (xs : List Step). xs ++ step ∷ []) c.new-steps.ensures.items in
    begun c.args.work.now _ (packed (record { states = c.insert.new.states; steps = c.push.new.self; done = 0 })) c.in_ok-bytes.bytes.items c.in_ok-insert.field-0 c.push.new.self.items step c.in_ok-state.state (ranked c.in_ok-state.state)
    c.in_ok-state.ensures.state refl c.in_ok-bytes.ensures.held c.in_ok-bytes.ensures.bytes none (rw c.deref.ensures.value at c.in_ok-insert.ensures) one
