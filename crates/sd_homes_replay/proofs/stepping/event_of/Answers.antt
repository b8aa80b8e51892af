use Rattle.std.proofs.Common.{length, subst}
use Rattle.sd_machine.specs.declared.plans.Plan.{Plan}
use Rattle.sd_machine.specs.Plans.{plan}
use Rattle.sd_step.specs.Needed.{choice_parts, plan_parts}
use Rattle.sd_store.specs.Parts.{IsAmong}
use Rattle.sd_store.proofs.Among.{among_right}
use Rattle.sd_world.specs.Plain.{told}
use Rattle.sd_world.proofs.PlainLemmas.{shown}
use Rattle.sd_homes_replay.proofs.StepLemmas.{turn_lacks_nothing}
use Rattle.sd_homes_replay.proofs.stepping.event_of.Goals as goal

pub unreachable-requires : goal.unreachable-requires
unreachable-requires c =
    let w = c.args.work.now in
    let x = c.args.world.now in
    let s = told w x in
    let cpu = x.acting.actor.cpu in
    let hints = c.args.hints.now in
    let q = c.in-Err.field-0 in
    let lack = c.in-Err.ensures.lack in
    let among = lack.0 (length x.entries.items) s (shown w x c.requires.stands) (c.requires.reads, c.requires.hints) in
    turn_lacks_nothing w x c.requires.stands hints q
    (among_right q (plan_parts w s cpu) (choice_parts w s cpu hints (plan w s cpu.0)) (subst (λ (p : Plan). IsAmong q (choice_parts w s cpu hints p)) c.requires.plan among)) lack.1

pub returns : goal.returns
returns c =
    let w = c.args.work.now in
    let x = c.args.world.now in
    c.in-Ok.ensures.value (length x.entries.items) (told w x) (shown w x c.requires.stands) (c.requires.reads, c.requires.hints)
