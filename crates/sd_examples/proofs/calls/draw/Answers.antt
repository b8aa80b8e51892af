use Rattle.std.proofs.Common.{ℕ, subst}
use Rattle.sd_examples.specs.Calls.{Views}
use Rattle.sd_examples.specs.Outcomes.{Draws, Refuses}
use Rattle.sd_examples.proofs.calls.draw.Goals as goal

pub returns-then-call-ne0 : goal.returns-then-call-ne0
unfolding Refuses
returns-then-call-ne0 c = ((c.in_ok-call.call.out.held, c.in_ok-call.ensures), c.if-call-ne0.true)

pub returns : goal.returns
unfolding Draws
returns c =
    let call = c.in_ok-call.call in
    subst (λ (status : ℕ). Views c.args.word.now c.args.certificate.now call.out.held status) c.if-call-ne0.false c.in_ok-call.ensures
