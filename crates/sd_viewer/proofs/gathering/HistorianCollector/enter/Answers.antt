use Rattle.std.proofs.Common.{◌≡◌, sym, ap, ◌∙◌, subst}
use Rattle.std.specs.Bool.{OnTrue}
use Rattle.sd_state.specs.declared.states.State.{State}
use Rattle.sd_machine.specs.Events.{after}
use Rattle.sd_machine.proofs.RunLemmas.{final-push}
use Rattle.sd_world.specs.Plain.{told}
use Rattle.sd_stretches.specs.Glimpses.{glimpse_of}
use Rattle.sd_viewer.proofs.ForeseenLemmas.{foreseen_after}
use Rattle.sd_viewer.proofs.GlimpseLemmas.{step_inside}
use Rattle.sd_viewer.proofs.gathering.HistorianCollector.enter.Goals as goal

pub glimpse_of-glimpse-requires-clause-cpu : goal.glimpse_of-glimpse-requires-clause-cpu
glimpse_of-glimpse-requires-clause-cpu c = step_inside c.args.work.now (told c.args.work.now c.args.world.now) c.args.entry.now (c.in_ok-step.ensures.step.0 c.if-branch.true)

pub glimpse_of-glimpse-requires-clause-foreseen : goal.glimpse_of-glimpse-requires-clause-foreseen
glimpse_of-glimpse-requires-clause-foreseen c =
    let w = c.args.work.now in
    let e = c.args.entry.now in
    let made = subst (λ b. OnTrue b (told w c.step.new.world ≡ after w (told w c.args.world.now) e.number e.cpu e.event)) c.if-branch.true c.in_ok-step.ensures.made in
    foreseen_after w (told w c.args.world.now) (told w c.step.new.world) e.number e.cpu e.event c.foresee-foreseen.result made c.foresee-foreseen.ensures

-- the homes tell the state that the entry made
pub returns-in_ok-add-clause-takes : goal.returns-in_ok-add-clause-takes
returns-in_ok-add-clause-takes c = λ first es ends had.
    let w = c.args.work.now in
    let e = c.args.entry.now in
    let made = subst (λ b. OnTrue b (told w c.step.new.world ≡ after w (told w c.args.world.now) e.number e.cpu e.event)) c.if-branch.true c.in_ok-step.ensures.made in
    let leads = made ∙ ap (λ (x : State). after w x e.number e.cpu e.event) ends ∙ sym (final-push w _ es e) in
    c.in_ok-add.ensures w es (c.glimpse_of-glimpse.ensures ∙ ap (λ (x : State). glimpse_of x e) leads) had
