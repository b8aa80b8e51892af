use Rattle.std.proofs.Common.{◌<◌, ◌/◌, drop, set, refl, slice_get, Some, sym, ap, ◌∙◌, subst, arith}
use Rattle.sd_boxq.proofs.InOrder.{IsRanked-drop}
use Rattle.sd_turnstile.specs.Waiters.{on_side, with_side}
use Rattle.sd_turnstile.specs.Serving.{served}
use Rattle.sd_turnstile.proofs.ChainLemmas.{Sound, Sound-leaves, spare_there, lock_is, lock_set, length-drop_front, nobody_there, nobody_less, nobody_leaves, Sound-same, are_ranked, first_best, ranked_at, ranked_side, renamed}
use Rattle.sd_turnstile.proofs.chain.TurnstileChain.take_best.Goals as goal

pub released-serving-requires : goal.released-serving-requires
released-serving-requires g c =
    let m = c.requires.0 in
    let within : c.args.l.0 / 64 < 4 = omega arith in
    let w = c.in-Some.turnstile in
    let there = renamed c.self.inside.locks (c.args.l.0 / 64) _ _ (sym c.take.ensures.value ∙ c.in-Some.is) c.at_mut-slot.ensures.value in
    let less = length-drop_front c.in-Some-pop.n (on_side w c.args.side) (sym c.pop.ensures.taken ∙ c.in-Some-pop.is) in
    spare_there g.T.Ranked.rank g.T.Ranked.key c.self.inside.chain c.self.inside.locks c.self.inside.free (c.args.l.0 / 64) w c.pop.new.self c.args.side (drop 1 (on_side w c.args.side))
    c.self.invariant there within c.pop.ensures.rest less

pub invariant_of-self-in-Some-pop : goal.invariant_of-self-in-Some-pop
invariant_of-self-in-Some-pop g c =
    let rank = g.T.Ranked.rank in
    let key = g.T.Ranked.key in
    let m = c.requires.0 in
    let within : c.args.l.0 / 64 < 4 = omega arith in
    let w = c.in-Some.turnstile in
    let xs = on_side w c.args.side in
    let there = renamed c.self.inside.locks (c.args.l.0 / 64) _ _ (sym c.take.ensures.value ∙ c.in-Some.is) c.at_mut-slot.ensures.value in
    let less = length-drop_front c.in-Some-pop.n xs (sym c.pop.ensures.taken ∙ c.in-Some-pop.is) in
    let ranked = ranked_side rank key w c.args.side (ranked_at rank key c.self.inside.chain c.self.inside.locks c.self.inside.free (c.args.l.0 / 64) _ c.self.invariant there within) in
    subst (λ t. Sound rank key c.self.inside.chain (set c.self.inside.locks (c.args.l.0 / 64) t) c.released-serving.new.free) (sym c.fill-in-Some-pop.ensures)
    (Sound-leaves rank key c.self.inside.chain c.self.inside.locks c.self.inside.free _ (c.args.l.0 / 64) w c.pop.new.self c.released-serving.result.0 c.args.side (drop 1 xs)
    c.self.invariant there within c.pop.ensures.rest less (IsRanked-drop rank key xs ranked) c.released-serving.ensures.waiters c.released-serving.ensures.busy c.released-serving.ensures.spares)

pub returns-in-None-clause-taken : goal.returns-in-None-clause-taken
returns-in-None-clause-taken g c =
    let lock = lock_is c.self.inside.chain c.self.inside.locks c.args.self.now c.args.l.0 c.at_mut-slot.result.now c.self.view_is c.at_mut-slot.ensures.value c.requires.0 c.self.invariant.1 ∙ ap served (sym c.take.ensures.value ∙ c.in-None.is) in
    sym (ap (λ w. slice_get (on_side w c.args.side) 0) lock ∙ ap (λ xs. slice_get xs 0) (nobody_there c.args.side))

pub returns-in-None-clause-rest : goal.returns-in-None-clause-rest
returns-in-None-clause-rest g c =
    let none = sym c.take.ensures.value ∙ c.in-None.is in
    lock_set c.self.inside.chain c.self.inside.locks c.args.self.now c.args.l.0 c.at_mut-slot.result.now c.self.view_is c.at_mut-slot.ensures.value c.requires.0 c.self.invariant.1
    c.take.new.self c.args.side (drop 1)
    (ap served c.take.ensures.after ∙ nobody_less c.args.side (drop 1) refl ∙ ap (λ o. with_side (served o) c.args.side (drop 1 (on_side (served o) c.args.side))) (sym none))

pub returns-in-None-pop-clause-taken : goal.returns-in-None-pop-clause-taken
returns-in-None-pop-clause-taken g c =
    let lock = lock_is c.self.inside.chain c.self.inside.locks c.args.self.now c.args.l.0 c.at_mut-slot.result.now c.self.view_is c.at_mut-slot.ensures.value c.requires.0 c.self.invariant.1 ∙ ap served (sym c.take.ensures.value ∙ c.in-Some.is) in
    sym c.in-None-pop.is ∙ c.pop.ensures.taken ∙ ap (λ w. slice_get (on_side w c.args.side) 0) (sym lock)

pub returns-in-Some-pop-clause-taken : goal.returns-in-Some-pop-clause-taken
returns-in-Some-pop-clause-taken g c =
    let lock = lock_is c.self.inside.chain c.self.inside.locks c.args.self.now c.args.l.0 c.at_mut-slot.result.now c.self.view_is c.at_mut-slot.ensures.value c.requires.0 c.self.invariant.1 ∙ ap served (sym c.take.ensures.value ∙ c.in-Some.is) in
    sym c.in-Some-pop.is ∙ c.pop.ensures.taken ∙ ap (λ w. slice_get (on_side w c.args.side) 0) (sym lock)

pub returns-in-Some-pop-clause-rest : goal.returns-in-Some-pop-clause-rest
returns-in-Some-pop-clause-rest g c =
    let some = sym c.take.ensures.value ∙ c.in-Some.is in
    lock_set c.self.inside.chain c.self.inside.locks c.args.self.now c.args.l.0 c.at_mut-slot.result.now c.self.view_is c.at_mut-slot.ensures.value c.requires.0 c.self.invariant.1
    c.fill-in-Some-pop.new.slot c.args.side (drop 1)
    (ap served c.fill-in-Some-pop.ensures ∙ c.released-serving.ensures.waiters ∙ c.pop.ensures.rest ∙ ap (λ o. with_side (served o) c.args.side (drop 1 (on_side (served o) c.args.side))) (sym some))

pub returns-in-None-pop-clause-rest : goal.returns-in-None-pop-clause-rest
returns-in-None-pop-clause-rest g c =
    let some = sym c.take.ensures.value ∙ c.in-Some.is in
    lock_set c.self.inside.chain c.self.inside.locks c.args.self.now c.args.l.0 c.at_mut-slot.result.now c.self.view_is c.at_mut-slot.ensures.value c.requires.0 c.self.invariant.1
    c.fill.new.slot c.args.side (drop 1)
    (ap served c.fill.ensures ∙ c.pop.ensures.rest ∙ ap (λ o. with_side (served o) c.args.side (drop 1 (on_side (served o) c.args.side))) (sym some))

pub invariant_of-self : goal.invariant_of-self
invariant_of-self g c =
    let none = sym c.take.ensures.value ∙ c.in-None.is in
    Sound-same g.T.Ranked.rank g.T.Ranked.key c.self.inside.chain c.self.inside.locks c.self.inside.free (c.args.l.0 / 64) _ c.take.new.self
    c.self.invariant c.at_mut-slot.ensures.value (c.take.ensures.after ∙ sym none)

pub invariant_of-self-in-None-pop : goal.invariant_of-self-in-None-pop
invariant_of-self-in-None-pop g c =
    let some = sym c.take.ensures.value ∙ c.in-Some.is in
    let none = sym c.pop.ensures.taken ∙ c.in-None-pop.is in
    Sound-same g.T.Ranked.rank g.T.Ranked.key c.self.inside.chain c.self.inside.locks c.self.inside.free (c.args.l.0 / 64) _ c.fill.new.slot
    c.self.invariant c.at_mut-slot.ensures.value (c.fill.ensures ∙ ap Some (c.pop.ensures.rest ∙ nobody_leaves c.in-Some.turnstile c.args.side none) ∙ sym some)

pub returns-in-Some-pop-clause-best : goal.returns-in-Some-pop-clause-best
returns-in-Some-pop-clause-best g c =
    let lock = lock_is c.self.inside.chain c.self.inside.locks c.args.self.now c.args.l.0 c.at_mut-slot.result.now c.self.view_is c.at_mut-slot.ensures.value c.requires.0 c.self.invariant.1 ∙ ap served (sym c.take.ensures.value ∙ c.in-Some.is) in
    let order = are_ranked g.T.Ranked.rank g.T.Ranked.key c.self.inside.chain c.self.inside.locks c.args.self.now c.self.invariant.2 c.self.view_is c.args.l.0 c.args.side in
    first_best g.T.Ranked.rank g.T.Ranked.key _ (Some c.in-Some-pop.n) order (sym c.in-Some-pop.is ∙ c.pop.ensures.taken ∙ ap (λ w. slice_get (on_side w c.args.side) 0) (sym lock))
