use Rattle.sd_types.proofs.WilledLemmas.{number_for-with, number_for-without, number_for-with_other, number_for-without_other}
use Rattle.sd_record.proofs.laws.numbers_are_apart.Goals as goal

pub returns-clause-set : goal.returns-clause-set
returns-clause-set c = number_for-with

pub returns-clause-removed : goal.returns-clause-removed
returns-clause-removed c = number_for-without

pub returns-clause-set_others : goal.returns-clause-set_others
returns-clause-set_others c = number_for-with_other

pub returns-clause-removed_others : goal.returns-clause-removed_others
returns-clause-removed_others c = number_for-without_other
