use Rattle.std.proofs.Common.{◌+◌, Some, refl, sym, ap, ◌∙◌, subst}
use Rattle.sd_invariants.proofs.Range.{needs_reached}
use Rattle.sd_invariants.proofs.Whole.{fit_reached}
use Rattle.sd_state.specs.declared.states.State.{State}
use Rattle.sd_types.specs.declared.events.Event.{Event}
use Rattle.sd_machine.specs.Events.{after}
use Rattle.sd_machine.specs.Runs.{IsReached}
use Rattle.sd_replay.proofs.stepping.step.Goals as goal
use Rattle.sd_invariants.proofs.Induction.{reached_more}

pub next_of-requires : goal.next_of-requires
next_of-requires c = record { fit = fit_reached c.args.work.now c.args.entry.now.number c.args.s.now c.requires.reached }

pub apply-requires-clause-fit : goal.apply-requires-clause-fit
apply-requires-clause-fit c = fit_reached c.args.work.now c.args.entry.now.number c.args.s.now c.requires.reached

pub apply-requires-clause-needs : goal.apply-requires-clause-needs
apply-requires-clause-needs c =
    let e = c.args.entry.now in
    needs_reached c.args.work.now e.number c.args.s.now e.cpu e.hints c.in-Some.event c.requires.reached (sym c.in-Some.ensures)

pub returns-in-Some-clause-reached : goal.returns-in-Some-clause-reached
returns-in-Some-clause-reached c =
    let w = c.args.work.now in
    let s = c.args.s.now in
    let e = c.args.entry.now in
    let same = c.same_event.ensures.0 c.if-same_event.true in
    subst (λ (x : State). IsReached w (e.number + 1) x) (sym (c.apply.ensures ∙ ap (λ (v : Event). after w s e.number e.cpu v) same))
    (reached_more w e.number s e c.requires.reached refl (sym c.in-Some.ensures ∙ ap (λ (v : Event). Some v) same))
