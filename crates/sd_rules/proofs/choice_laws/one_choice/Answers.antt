use Rattle.sd_rules.proofs.ChoiceLemmas.{same_choice}
use Rattle.sd_rules.proofs.choice_laws.one_choice.Goals as goal

pub returns : goal.returns
returns c = same_choice
