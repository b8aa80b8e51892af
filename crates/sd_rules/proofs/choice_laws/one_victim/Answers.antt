use Rattle.sd_rules.proofs.ChoiceLemmas.{same_victim}
use Rattle.sd_rules.proofs.choice_laws.one_victim.Goals as goal

pub returns : goal.returns
returns c = same_victim
