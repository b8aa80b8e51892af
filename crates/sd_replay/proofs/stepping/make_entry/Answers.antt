use Rattle.std.proofs.Common.{◌+◌, Option, refl, ap, sym, ◌∙◌, subst}
use Rattle.sd_state.specs.declared.states.State.{State}
use Rattle.sd_types.specs.declared.events.Event.{Event}
use Rattle.sd_machine.specs.Runs.{IsReached, final, made, serial_hints}
use Rattle.sd_machine.proofs.RunLemmas.{final-one, final-nil}
use Rattle.sd_invariants.proofs.Range.{needs_reached}
use Rattle.sd_invariants.proofs.Whole.{fit_reached}
use Rattle.sd_replay.proofs.Needed.{no_maker}
use Rattle.sd_replay.proofs.stepping.make_entry.Goals as goal
use Rattle.sd_invariants.proofs.Induction.{reached_more}

pub returns-then-c-work-clause-entry : goal.returns-then-c-work-clause-entry
returns-then-c-work-clause-entry c =
    let w = c.args.work.now in
    let s = c.args.s.now in
    let h = serial_hints w s c.args.c in
    ap (λ (o : Option Event). made c.args.number c.args.c h o) (sym (no_maker w s c.args.c h c.if-c-work.true))

pub returns-then-c-work-clause-state : goal.returns-then-c-work-clause-state
returns-then-c-work-clause-state c =
    let w = c.args.work.now in
    let s = c.args.s.now in
    let h = serial_hints w s c.args.c in
    sym (final-nil w s) ∙ ap (λ (o : Option Event). final w s (made c.args.number c.args.c h o)) (sym (no_maker w s c.args.c h c.if-c-work.true))

pub serial_next-hints-requires-clause-fit : goal.serial_next-hints-requires-clause-fit
serial_next-hints-requires-clause-fit c = fit_reached c.args.work.now c.args.number c.args.s.now c.requires.reached

pub apply-requires-clause-fit : goal.apply-requires-clause-fit
apply-requires-clause-fit c = fit_reached c.args.work.now c.args.number c.args.s.now c.requires.reached

pub apply-requires-clause-needs : goal.apply-requires-clause-needs
apply-requires-clause-needs c =
    let w = c.args.work.now in
    let s = c.args.s.now in
    needs_reached w c.args.number s c.args.c (serial_hints w s c.args.c) c.in-Some.event c.requires.reached
    (sym c.serial_next-hints.ensures.event ∙ c.in-Some.is)

pub returns-in-Some-clause-state : goal.returns-in-Some-clause-state
returns-in-Some-clause-state c =
    let w = c.args.work.now in
    let s = c.args.s.now in
    let h = serial_hints w s c.args.c in
    c.apply.ensures ∙ sym (final-one w s (record { number = c.args.number; cpu = c.args.c; event = c.in-Some.event; hints = h }))
    ∙ ap (λ (o : Option Event). final w s (made c.args.number c.args.c h o)) (sym c.in-Some.is ∙ c.serial_next-hints.ensures.event)

pub returns-in-None-clause-state : goal.returns-in-None-clause-state
returns-in-None-clause-state c =
    let w = c.args.work.now in
    let s = c.args.s.now in
    let h = serial_hints w s c.args.c in
    sym (final-nil w s) ∙ ap (λ (o : Option Event). final w s (made c.args.number c.args.c h o)) (sym c.in-None.is ∙ c.serial_next-hints.ensures.event)

pub returns-in-Some-clause-reached : goal.returns-in-Some-clause-reached
returns-in-Some-clause-reached c =
    let w = c.args.work.now in
    let s = c.args.s.now in
    λ some. subst (λ (x : State). IsReached w (c.args.number + 1) x) (sym c.apply.ensures)
    (reached_more w c.args.number s (record { number = c.args.number; cpu = c.args.c; event = c.in-Some.event; hints = serial_hints w s c.args.c }) c.requires.reached refl
    (sym c.serial_next-hints.ensures.event ∙ c.in-Some.is))
