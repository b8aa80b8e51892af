use Rattle.std.proofs.Common.{◌<◌, ◌==◌, set, sym, ap, ◌∙◌, subst, arith}
use Rattle.sd_boxq.specs.Order.{drop_id}
use Rattle.sd_boxq.proofs.InOrder.{IsRanked-drop_first}
use Rattle.sd_turnstile.specs.Waiters.{on_side}
use Rattle.sd_turnstile.specs.Serving.{served}
use Rattle.sd_turnstile.proofs.ChainLemmas.{Sound, Sound-leaves, spare_there, length-drop_first, ranked_at, ranked_side, renamed, has_left}
use Rattle.sd_turnstile.proofs.chain.TurnstileChain.take.Goals as goal

pub released-serving-requires : goal.released-serving-requires
released-serving-requires g c =
    let w = c.in-Some-take.turnstile in
    let holds = c.in-Some.ensures in
    let four = c.self.invariant.1 in
    let within : c.in-Some.index < 4 = omega arith in
    let some = sym c.take.ensures.value ∙ c.in-Some-take.is in
    let there = renamed c.self.inside.locks c.in-Some.index _ _ some c.at_mut-slot.ensures.value in
    let found = sym c.take_first.ensures.taken ∙ c.in-Some-take_first.is in
    let xs = on_side w c.in-Some.side in
    let less = length-drop_first (λ x. g.T.Ranked.id x == c.args.id) c.in-Some-take_first.n xs found in
    spare_there g.T.Ranked.rank g.T.Ranked.key c.self.inside.chain c.self.inside.locks c.self.inside.free c.in-Some.index w c.take_first.new.self c.in-Some.side (drop_id g.T.Ranked.id c.args.id xs)
    c.self.invariant there within c.take_first.ensures.rest less

pub invariant_of-self : goal.invariant_of-self
invariant_of-self g c =
    let rank = g.T.Ranked.rank in
    let key = g.T.Ranked.key in
    let w = c.in-Some-take.turnstile in
    let holds = c.in-Some.ensures in
    let four = c.self.invariant.1 in
    let within : c.in-Some.index < 4 = omega arith in
    let some = sym c.take.ensures.value ∙ c.in-Some-take.is in
    let there = renamed c.self.inside.locks c.in-Some.index _ _ some c.at_mut-slot.ensures.value in
    let found = sym c.take_first.ensures.taken ∙ c.in-Some-take_first.is in
    let xs = on_side w c.in-Some.side in
    let less = length-drop_first (λ x. g.T.Ranked.id x == c.args.id) c.in-Some-take_first.n xs found in
    let ranked = ranked_side rank key w c.in-Some.side (ranked_at rank key c.self.inside.chain c.self.inside.locks c.self.inside.free c.in-Some.index _ c.self.invariant there within) in
    subst (λ t. Sound rank key c.self.inside.chain (set c.self.inside.locks c.in-Some.index t) c.released-serving.new.free) (sym c.fill.ensures)
    (Sound-leaves rank key c.self.inside.chain c.self.inside.locks c.self.inside.free _ c.in-Some.index w c.take_first.new.self c.released-serving.result.0 c.in-Some.side (drop_id g.T.Ranked.id c.args.id xs)
    c.self.invariant there within c.take_first.ensures.rest less (IsRanked-drop_first rank key (λ x. g.T.Ranked.id x == c.args.id) xs ranked)
    c.released-serving.ensures.waiters c.released-serving.ensures.busy c.released-serving.ensures.spares)

pub returns-in-Some-take_first-clause-taken : goal.returns-in-Some-take_first-clause-taken
returns-in-Some-take_first-clause-taken g c =
    let w = c.in-Some-take.turnstile in
    let holds = c.in-Some.ensures in
    let four = c.self.invariant.1 in
    let within : c.in-Some.index < 4 = omega arith in
    let some = sym c.take.ensures.value ∙ c.in-Some-take.is in
    let there = renamed c.self.inside.locks c.in-Some.index _ _ some c.at_mut-slot.ensures.value in
    let found = sym c.take_first.ensures.taken ∙ c.in-Some-take_first.is in
    has_left g.T.Ranked.id c.args.id c.self.inside.locks c.in-Some.index c.in-Some.side holds c.self.inside.chain c.args.self.now c.self.view_is c.self.invariant.0 four _ there
    c.in-Some-take_first.n c.fill.new.slot found (ap served c.fill.ensures ∙ c.released-serving.ensures.waiters ∙ c.take_first.ensures.rest)
