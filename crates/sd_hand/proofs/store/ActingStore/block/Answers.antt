use Rattle.std.proofs.Common.{◌+◌, ap, ◌∙◌, subst}
use Rattle.std.proofs.lemmas.Bool.{eq-eqb}
use Rattle.sd_state.specs.declared.states.Place.TheVariants.{Waiting}
use Rattle.sd_machine.specs.Changes.{back_key, leave, set_duty}
use Rattle.sd_store.specs.Parts.{actor_part}
use Rattle.sd_hand.specs.Acting.{IsShown}
use Rattle.sd_hand.proofs.ActLemmas.{given_surely}
use Rattle.sd_hand.proofs.store.ActingStore.block.Goals as goal

pub returns-in-Ok-clause-value : goal.returns-in-Ok-clause-value
returns-in-Ok-clause-value c s sh can =
    let n = c.args.number in
    let own = c.args.c in
    let left = leave s own.0 c.args.t.0 (Waiting c.args.l c.args.side (back_key n)) in
    let shown : IsShown c.leave.new.self (n + 1) left = c.in-Ok.ensures.value s sh (can.1, can.2) in
    let acts = ap (λ f. f (actor_part own)) c.in-Ok.ensures.has ∙ eq-eqb own.0 c.args.self.now.actor.cpu.0 c.if-c-self.false in
    subst (λ d. IsShown c.give-given.new.self (n + 1) (set_duty left own.0 d)) c.walk.ensures (given_surely c.leave.new.self c.give-given.new.self own c.walk.result (n + 1) left c.give-given.result c.give-given.ensures.value c.give-given.ensures.lack acts shown)

pub returns-in-Ok-clause-has : goal.returns-in-Ok-clause-has
returns-in-Ok-clause-has c = c.give-given.ensures.has ∙ c.in-Ok.ensures.has
