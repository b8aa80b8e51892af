use Rattle.sd_rules.proofs.PartitionLemmas.{some_cpu, rising_cpus}
use Rattle.sd_rules.proofs.partition_laws.partitions_stand.Goals as goal

pub returns-clause-some : goal.returns-clause-some
returns-clause-some c = some_cpu

pub returns-clause-rising : goal.returns-clause-rising
returns-clause-rising c = rising_cpus
