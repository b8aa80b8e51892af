use Rattle.sd_rules.proofs.PartitionLemmas.{set-at_most, in_its_set, in_no_other}
use Rattle.sd_rules.proofs.partition_laws.each_in_one.Goals as goal

pub returns-clause-known : goal.returns-clause-known
returns-clause-known c = set-at_most

pub returns-clause-only : goal.returns-clause-only
returns-clause-only c = λ work cpu p. (in_no_other work cpu p, in_its_set work cpu p)
