use Rattle.sd_types.specs.Priorities.{base_of}
use Rattle.sd_types.proofs.PriorityLemmas.{greatest-base, greatest-each, greatest-one}
use Rattle.sd_record.proofs.laws.effective_is_greatest.Goals as goal

pub returns-clause-base : goal.returns-clause-base
returns-clause-base c = λ b. greatest-base (base_of b.class) b.willed.items

pub returns-clause-willed : goal.returns-clause-willed
returns-clause-willed c = λ b number has. greatest-each (base_of b.class) b.willed.items number has

pub returns-clause-one : goal.returns-clause-one
returns-clause-one c = λ b. greatest-one (base_of b.class) b.willed.items
