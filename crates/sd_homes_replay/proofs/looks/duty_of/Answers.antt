use Rattle.std.proofs.Common.{◌≤◌, List, length, Some, subst, sym, ap}
use Rattle.std.specs.Slice.{IsItemAt}
use Rattle.sd_state.specs.declared.states.CpuState.{CpuState}
use Rattle.sd_hand.specs.declared.acting.Actor.{Actor}
use Rattle.sd_homes_replay.proofs.LookLemmas.{found_actor, no_processor}
use Rattle.sd_homes_replay.proofs.looks.duty_of.Goals as goal

pub returns-in-Some : goal.returns-in-Some
returns-in-Some c =
    let lookup = subst (λ (l : List Actor). IsItemAt l c.args.c.0 (Some c.in-Some.actor)) c.deref.ensures.value c.in-Some.ensures.lookup in
    (found_actor c.args.work.now c.args.world.now c.requires.stands c.args.c.0 c.in-Some.actor.now lookup.3.0 lookup.1).duty

pub returns-in-None : goal.returns-in-None
returns-in-None c =
    let past = subst (λ (l : List Actor). length l ≤ c.args.c.0) c.deref.ensures.value c.in-None.ensures.lookup.3 in
    sym (ap (λ (y : CpuState). y.duty) (no_processor c.args.work.now c.args.world.now c.requires.stands c.args.c.0 past))
