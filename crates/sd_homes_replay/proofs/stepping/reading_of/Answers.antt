use Rattle.std.proofs.Common.{length, None, subst}
use Rattle.sd_machine.specs.declared.plans.Plan.{Plan}
use Rattle.sd_machine.specs.Plans.{plan}
use Rattle.sd_step.specs.Needed.{plan_parts, read_parts}
use Rattle.sd_store.specs.Parts.{IsAmong}
use Rattle.sd_store.proofs.Among.{among_right}
use Rattle.sd_world.specs.Plain.{told}
use Rattle.sd_world.proofs.PlainLemmas.{shown}
use Rattle.sd_homes_replay.proofs.LookLemmas.{none_lacking}
use Rattle.sd_homes_replay.proofs.StepLemmas.{turn_there}
use Rattle.sd_homes_replay.proofs.stepping.reading_of.Goals as goal

pub unreachable-requires : goal.unreachable-requires
unreachable-requires c =
    let w = c.args.work.now in
    let x = c.args.world.now in
    let s = told w x in
    let cpu = x.acting.actor.cpu in
    none_lacking w x c.requires.stands (λ z. read_parts w z cpu c.args.plan)
    (λ p among. (turn_there w x c.requires.stands None).reading p (among_right p (plan_parts w s cpu) (read_parts w s cpu (plan w s cpu.0)) (subst (λ (q : Plan). IsAmong p (read_parts w s cpu q)) c.requires.plan among)))
    c.in-Err.field-0 c.in-Err.ensures.lack

pub returns : goal.returns
returns c =
    let w = c.args.work.now in
    let x = c.args.world.now in
    c.in-Ok.ensures.value (length x.entries.items) (told w x) (shown w x c.requires.stands)
