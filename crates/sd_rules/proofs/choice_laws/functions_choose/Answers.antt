use Rattle.sd_rules.proofs.FunctionLemmas.{chosen_is, victim_is}
use Rattle.sd_rules.proofs.choice_laws.functions_choose.Goals as goal

pub returns-clause-chosen : goal.returns-clause-chosen
returns-clause-chosen c = chosen_is

pub returns-clause-victim : goal.returns-clause-victim
returns-clause-victim c = victim_is
