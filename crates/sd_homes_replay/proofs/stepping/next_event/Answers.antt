use Rattle.std.proofs.Common.{sym, ap, ◌∙◌}
use Rattle.sd_machine.specs.Events.{allowed}
use Rattle.sd_machine.specs.Hints.{hints_fit}
use Rattle.sd_world.specs.Plain.{told}
use Rattle.sd_world.proofs.PlainLemmas.{cpu_inside}
use Rattle.sd_homes_replay.proofs.StepLemmas.{next_is, next_not}
use Rattle.sd_homes_replay.proofs.stepping.next_event.Goals as goal

pub event_of-requires-clause-hints : goal.event_of-requires-clause-hints
event_of-requires-clause-hints c =
    ap (λ r. hints_fit r c.args.hints.now) (sym c.reading_of-reading.ensures) ∙ sym c.hints_fit.ensures ∙ c.if-not-hints_fit.false

pub returns-then-not-hints_fit : goal.returns-then-not-hints_fit
returns-then-not-hints_fit c =
    let w = c.args.work.now in
    let x = c.args.world.now in
    sym (next_not w (told w x) x.acting.actor.cpu c.args.hints.now _ c.plan_of-plan.ensures
    (ap (λ r. hints_fit r c.args.hints.now) (sym c.reading_of-reading.ensures) ∙ sym c.hints_fit.ensures ∙ c.if-not-hints_fit.true))

pub returns : goal.returns
returns c =
    let w = c.args.work.now in
    let x = c.args.world.now in
    let s = told w x in
    let cpu = x.acting.actor.cpu in
    c.allowed.ensures ∙ ap (allowed w s cpu.0) c.event_of.ensures
    ∙ sym (next_is w s cpu c.args.hints.now _ (cpu_inside w x c.requires.stands) c.plan_of-plan.ensures
    (ap (λ r. hints_fit r c.args.hints.now) (sym c.reading_of-reading.ensures) ∙ sym c.hints_fit.ensures ∙ c.if-not-hints_fit.false))
