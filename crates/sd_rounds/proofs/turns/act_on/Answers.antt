use Rattle.std.proofs.Common.{◌≡◌, sym, ◌∙◌}
use Rattle.sd_machine.specs.declared.plans.Plan.TheVariants.{Make}
use Rattle.sd_machine.specs.Plans.{plan as plan_of}
use Rattle.sd_world.specs.Plain.{told}
use Rattle.sd_world.proofs.PlainLemmas as P
use Rattle.sd_rounds.proofs.AloneLemmas.{makes_it, serial_of}
use Rattle.sd_rounds.proofs.turns.act_on.Goals as goal

pub come_alone-requires-clause-hints : goal.come_alone-requires-clause-hints
come_alone-requires-clause-hints c =
    let w = c.args.work.now in
    let x = c.args.world.now in
    let is : Make c.in-Make.event ≡ plan_of w (told w x) x.acting.actor.cpu.0 = sym c.in-Make.is ∙ c.requires.plan in
    sym (serial_of w (told w x) x.acting.actor.cpu (Make c.in-Make.event) is)

pub come_alone-requires-clause-event : goal.come_alone-requires-clause-event
come_alone-requires-clause-event c =
    let w = c.args.work.now in
    let x = c.args.world.now in
    makes_it w (told w x) x.acting.actor.cpu c.in-Make.event (P.cpu_inside w x c.requires.stands) (sym c.in-Make.is ∙ c.requires.plan)
