use Rattle.std.proofs.Common.{◌≡◌, sym, ap, subst}
use Rattle.std.proofs.lemmas.Result.{on_ok_weaker}
use Rattle.sd_state.specs.declared.states.State.{State}
use Rattle.sd_machine.specs.Events.{after}
use Rattle.sd_search.specs.Spelled.{IsTurn}
use Rattle.sd_encoding.specs.Order.{IsSameOrder}
use Rattle.sd_encoding.specs.Ranks.{ranked}
use Rattle.sd_encoding.proofs.OrderRankLemmas.{ranked_order}
use Rattle.sd_search.specs.Graphs.{packed, steps_of}
use Rattle.sd_search.proofs.PathLemmas.{fit_at}
use Rattle.sd_search.proofs.TurnLemmas as T
use Rattle.sd_search.proofs.graph.Graph.follow.Goals as goal

pub take_turn-requires-clause-fit : goal.take_turn-requires-clause-fit
take_turn-requires-clause-fit c =
    let g = c.args.self.now in
    fit_at c.args.work.now (packed g) (steps_of g) g.done c.requires.gathered c.args.i c.args.from.now c.requires.at

pub take_turn-requires-clause-needs : goal.take_turn-requires-clause-needs
take_turn-requires-clause-needs c =
    let g = c.args.self.now in
    T.needs_here c.args.work.now (packed g) (steps_of g) g.done c.requires.gathered c.args.i c.args.from.now c.requires.at c.args.c c.args.event c.requires.makes

pub add-requires-clause-turn : goal.add-requires-clause-turn
add-requires-clause-turn c =
    let g = c.args.self.now in
    let w = c.args.work.now in
    let x = c.args.from.now in
    let made : IsTurn w x c.args.c (ranked (after w x 0 c.args.c c.args.event)) = T.turn_made w (packed g) (steps_of g) g.done c.requires.gathered c.args.i x c.requires.at c.args.c c.args.event c.requires.makes in
    (x, c.requires.at, subst (λ (z : State). IsTurn w x c.args.c (ranked z)) (sym c.in_ok-take_turn.ensures.state) made)

pub returns-clause-leads : goal.returns-clause-leads
returns-clause-leads c =
    let next = after c.args.work.now c.args.from.now 0 c.args.c c.args.event in
    on_ok_weaker c.add.result
    (λ has. record {
      state = ranked c.take_turn.new.self.state;
      among = has;
      same = subst (λ (z : State). IsSameOrder (ranked z) next) (sym c.in_ok-take_turn.ensures.state) (ranked_order next);
    })
    c.add.ensures.has
