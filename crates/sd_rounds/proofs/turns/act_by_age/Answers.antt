use Rattle.sd_rounds.proofs.SightLemmas.{same_plan}
use Rattle.sd_rounds.proofs.turns.act_by_age.Goals as goal

pub act_on-requires-clause-plan : goal.act_on-requires-clause-plan
act_on-requires-clause-plan c = same_plan _ _ _ c.in-Some.ensures c.requires.plan
