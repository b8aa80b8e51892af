use Rattle.std.proofs.Common.{length, None}
use Rattle.sd_invariants.proofs.Whole.{fit_reached}
use Rattle.sd_machine.specs.Plans.{plan}
use Rattle.sd_step.specs.Needed.{plan_parts, read_parts}
use Rattle.sd_store.proofs.Among.{among_left}
use Rattle.sd_world.specs.Plain.{told}
use Rattle.sd_world.proofs.PlainLemmas.{reached, shown}
use Rattle.sd_homes_replay.proofs.LookLemmas.{none_lacking}
use Rattle.sd_homes_replay.proofs.StepLemmas.{turn_there}
use Rattle.sd_homes_replay.proofs.stepping.plan_of.Goals as goal

pub unreachable-requires : goal.unreachable-requires
unreachable-requires c =
    let w = c.args.work.now in
    let x = c.args.world.now in
    let cpu = x.acting.actor.cpu in
    none_lacking w x c.requires.stands (λ s. plan_parts w s cpu)
    (λ p among. (turn_there w x c.requires.stands None).reading p (among_left p (plan_parts w (told w x) cpu) (read_parts w (told w x) cpu (plan w (told w x) cpu.0)) among)) c.in-Err.field-0 c.in-Err.ensures.lack

pub returns : goal.returns
returns c =
    let w = c.args.work.now in
    let x = c.args.world.now in
    c.in-Ok.ensures.value (length x.entries.items) (told w x) (shown w x c.requires.stands) (λ k. (fit_reached w (length x.entries.items) (told w x) (reached w x c.requires.stands)).counts k.0)
