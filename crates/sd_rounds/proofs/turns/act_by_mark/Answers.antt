use Rattle.std.proofs.Common.{◌∙◌}
use Rattle.sd_rounds.proofs.turns.act_by_mark.Goals as goal

pub act_on-requires-clause-plan : goal.act_on-requires-clause-plan
act_on-requires-clause-plan c = c.in-Some.ensures ∙ c.requires.plan
