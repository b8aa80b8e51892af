use Rattle.sd_rounds.proofs.AloneLemmas.{plan_shown}
use Rattle.sd_rounds.proofs.turns.find_plan.Goals as goal

pub returns-in-Ok : goal.returns-in-Ok
returns-in-Ok c = plan_shown c.args.work.now c.args.world.now c.in-Ok.plan c.requires c.in-Ok.ensures.value
