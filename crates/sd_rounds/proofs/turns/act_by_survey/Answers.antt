use Rattle.std.proofs.Common.{length, sym, ap, ◌∙◌}
use Rattle.sd_rules.specs.ChoiceFunctions.{victim_of}
use Rattle.sd_machine.specs.declared.plans.Plan.TheVariants.{Search}
use Rattle.sd_machine.specs.Choosing.{neighbours}
use Rattle.sd_world.specs.Plain.{told}
use Rattle.sd_world.proofs.PlainLemmas as P
use Rattle.sd_rounds.proofs.AloneLemmas.{serial_of}
use Rattle.sd_rounds.proofs.SurveyLemmas.{will_search}
use Rattle.sd_rounds.proofs.turns.act_by_survey.Goals as goal

pub come_alone-requires-clause-hints : goal.come_alone-requires-clause-hints
come_alone-requires-clause-hints c =
    let w = c.args.work.now in
    let x = c.args.world.now in
    let s = told w x in
    let cpu = x.acting.actor.cpu in
    c.hints_of-hints.ensures s (neighbours s cpu.0) c.requires.survey.numbers ∙ sym (serial_of w s cpu Search c.requires.plan)

pub come_alone-requires-clause-event : goal.come_alone-requires-clause-event
come_alone-requires-clause-event c =
    let w = c.args.work.now in
    let x = c.args.world.now in
    let s = told w x in
    let cpu = x.acting.actor.cpu in
    let near = neighbours s cpu.0 in
    will_search w s cpu c.hints_of-hints.result c.args.found.victim c.in-Ok.event (P.cpu_inside w x c.requires.stands) c.requires.plan
    (c.hints_of-hints.ensures s near c.requires.survey.numbers) (c.requires.survey.victim ∙ ap (victim_of near) c.requires.survey.numbers)
    (c.in-Ok.ensures.value (length x.entries.items) s (P.shown w x c.requires.stands))
