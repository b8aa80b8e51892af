use Rattle.std.proofs.Common.{◌<◌, ◌/◌, ◌==◌, set, refl, Some, sym, ap, ◌∙◌, subst, arith}
use Rattle.sd_boxq.specs.Order.{find_id, drop_id}
use Rattle.sd_boxq.proofs.InOrder.{IsRanked-drop_first}
use Rattle.sd_turnstile.specs.Waiters.{on_side, with_side}
use Rattle.sd_turnstile.specs.Serving.{served}
use Rattle.sd_turnstile.proofs.ChainLemmas.{Sound, Sound-leaves, spare_there, lock_is, lock_set, length-drop_first, nobody_there, nobody_less, Sound-same, ranked_at, ranked_side, renamed}
use Rattle.sd_turnstile.proofs.LeftLemmas.{none_leaves}
use Rattle.sd_turnstile.proofs.chain.TurnstileChain.take_at.Goals as goal

pub released-serving-requires : goal.released-serving-requires
released-serving-requires g c =
    let m = c.requires.0 in
    let within : c.args.l.0 / 64 < 4 = omega arith in
    let w = c.in-Some.turnstile in
    let there = renamed c.self.inside.locks (c.args.l.0 / 64) _ _ (sym c.take.ensures.value ∙ c.in-Some.is) c.at_mut-slot.ensures.value in
    let xs = on_side w c.args.side in
    let less = length-drop_first (λ x. g.T.Ranked.id x == c.args.id) c.in-Some-take_first.n xs (sym c.take_first.ensures.taken ∙ c.in-Some-take_first.is) in
    spare_there g.T.Ranked.rank g.T.Ranked.key c.self.inside.chain c.self.inside.locks c.self.inside.free (c.args.l.0 / 64) w c.take_first.new.self c.args.side (drop_id g.T.Ranked.id c.args.id xs)
    c.self.invariant there within c.take_first.ensures.rest less

pub invariant_of-self-in-Some-take_first : goal.invariant_of-self-in-Some-take_first
invariant_of-self-in-Some-take_first g c =
    let rank = g.T.Ranked.rank in
    let key = g.T.Ranked.key in
    let m = c.requires.0 in
    let within : c.args.l.0 / 64 < 4 = omega arith in
    let w = c.in-Some.turnstile in
    let xs = on_side w c.args.side in
    let there = renamed c.self.inside.locks (c.args.l.0 / 64) _ _ (sym c.take.ensures.value ∙ c.in-Some.is) c.at_mut-slot.ensures.value in
    let less = length-drop_first (λ x. g.T.Ranked.id x == c.args.id) c.in-Some-take_first.n xs (sym c.take_first.ensures.taken ∙ c.in-Some-take_first.is) in
    let ranked = ranked_side rank key w c.args.side (ranked_at rank key c.self.inside.chain c.self.inside.locks c.self.inside.free (c.args.l.0 / 64) _ c.self.invariant there within) in
    subst (λ t. Sound rank key c.self.inside.chain (set c.self.inside.locks (c.args.l.0 / 64) t) c.released-serving.new.free) (sym c.fill-in-Some-take_first.ensures)
    (Sound-leaves rank key c.self.inside.chain c.self.inside.locks c.self.inside.free _ (c.args.l.0 / 64) w c.take_first.new.self c.released-serving.result.0 c.args.side (drop_id g.T.Ranked.id c.args.id xs)
    c.self.invariant there within c.take_first.ensures.rest less (IsRanked-drop_first rank key (λ x. g.T.Ranked.id x == c.args.id) xs ranked)
    c.released-serving.ensures.waiters c.released-serving.ensures.busy c.released-serving.ensures.spares)

pub returns-in-None-clause-taken : goal.returns-in-None-clause-taken
returns-in-None-clause-taken g c =
    let lock = lock_is c.self.inside.chain c.self.inside.locks c.args.self.now c.args.l.0 c.at_mut-slot.result.now c.self.view_is c.at_mut-slot.ensures.value c.requires.0 c.self.invariant.1 ∙ ap served (sym c.take.ensures.value ∙ c.in-None.is) in
    sym (ap (λ w. find_id g.T.Ranked.id c.args.id (on_side w c.args.side)) lock ∙ ap (find_id g.T.Ranked.id c.args.id) (nobody_there c.args.side))

pub returns-in-None-clause-rest : goal.returns-in-None-clause-rest
returns-in-None-clause-rest g c =
    let none = sym c.take.ensures.value ∙ c.in-None.is in
    lock_set c.self.inside.chain c.self.inside.locks c.args.self.now c.args.l.0 c.at_mut-slot.result.now c.self.view_is c.at_mut-slot.ensures.value c.requires.0 c.self.invariant.1
    c.take.new.self c.args.side (drop_id g.T.Ranked.id c.args.id)
    (ap served c.take.ensures.after ∙ nobody_less c.args.side (drop_id g.T.Ranked.id c.args.id) refl ∙ ap (λ o. with_side (served o) c.args.side (drop_id g.T.Ranked.id c.args.id (on_side (served o) c.args.side))) (sym none))

pub returns-in-None-take_first-clause-taken : goal.returns-in-None-take_first-clause-taken
returns-in-None-take_first-clause-taken g c =
    let lock = lock_is c.self.inside.chain c.self.inside.locks c.args.self.now c.args.l.0 c.at_mut-slot.result.now c.self.view_is c.at_mut-slot.ensures.value c.requires.0 c.self.invariant.1 ∙ ap served (sym c.take.ensures.value ∙ c.in-Some.is) in
    sym c.in-None-take_first.is ∙ c.take_first.ensures.taken ∙ ap (λ w. find_id g.T.Ranked.id c.args.id (on_side w c.args.side)) (sym lock)

pub returns-in-Some-take_first-clause-taken : goal.returns-in-Some-take_first-clause-taken
returns-in-Some-take_first-clause-taken g c =
    let lock = lock_is c.self.inside.chain c.self.inside.locks c.args.self.now c.args.l.0 c.at_mut-slot.result.now c.self.view_is c.at_mut-slot.ensures.value c.requires.0 c.self.invariant.1 ∙ ap served (sym c.take.ensures.value ∙ c.in-Some.is) in
    sym c.in-Some-take_first.is ∙ c.take_first.ensures.taken ∙ ap (λ w. find_id g.T.Ranked.id c.args.id (on_side w c.args.side)) (sym lock)

pub returns-in-Some-take_first-clause-rest : goal.returns-in-Some-take_first-clause-rest
returns-in-Some-take_first-clause-rest g c =
    let some = sym c.take.ensures.value ∙ c.in-Some.is in
    lock_set c.self.inside.chain c.self.inside.locks c.args.self.now c.args.l.0 c.at_mut-slot.result.now c.self.view_is c.at_mut-slot.ensures.value c.requires.0 c.self.invariant.1
    c.fill-in-Some-take_first.new.slot c.args.side (drop_id g.T.Ranked.id c.args.id)
    (ap served c.fill-in-Some-take_first.ensures ∙ c.released-serving.ensures.waiters ∙ c.take_first.ensures.rest ∙ ap (λ o. with_side (served o) c.args.side (drop_id g.T.Ranked.id c.args.id (on_side (served o) c.args.side))) (sym some))

pub returns-in-None-take_first-clause-rest : goal.returns-in-None-take_first-clause-rest
returns-in-None-take_first-clause-rest g c =
    let some = sym c.take.ensures.value ∙ c.in-Some.is in
    lock_set c.self.inside.chain c.self.inside.locks c.args.self.now c.args.l.0 c.at_mut-slot.result.now c.self.view_is c.at_mut-slot.ensures.value c.requires.0 c.self.invariant.1
    c.fill.new.slot c.args.side (drop_id g.T.Ranked.id c.args.id)
    (ap served c.fill.ensures ∙ c.take_first.ensures.rest ∙ ap (λ o. with_side (served o) c.args.side (drop_id g.T.Ranked.id c.args.id (on_side (served o) c.args.side))) (sym some))

pub invariant_of-self : goal.invariant_of-self
invariant_of-self g c =
    let none = sym c.take.ensures.value ∙ c.in-None.is in
    Sound-same g.T.Ranked.rank g.T.Ranked.key c.self.inside.chain c.self.inside.locks c.self.inside.free (c.args.l.0 / 64) _ c.take.new.self
    c.self.invariant c.at_mut-slot.ensures.value (c.take.ensures.after ∙ sym none)

pub invariant_of-self-in-None-take_first : goal.invariant_of-self-in-None-take_first
invariant_of-self-in-None-take_first g c =
    let some = sym c.take.ensures.value ∙ c.in-Some.is in
    let none = sym c.take_first.ensures.taken ∙ c.in-None-take_first.is in
    Sound-same g.T.Ranked.rank g.T.Ranked.key c.self.inside.chain c.self.inside.locks c.self.inside.free (c.args.l.0 / 64) _ c.fill.new.slot
    c.self.invariant c.at_mut-slot.ensures.value (c.fill.ensures ∙ ap Some (c.take_first.ensures.rest ∙ none_leaves (λ x. g.T.Ranked.id x == c.args.id) c.in-Some.turnstile c.args.side none) ∙ sym some)
