use Rattle.sd_set_inputs.proofs.SetLemmas.{alone_of, plain_spells}
use Rattle.sd_set_inputs.proofs.laws.workloads_stand_for_themselves.Goals as goal

pub returns-clause-spelled : goal.returns-clause-spelled
returns-clause-spelled c = plain_spells

pub returns-clause-alone : goal.returns-clause-alone
returns-clause-alone c = alone_of
