use Rattle.sd_rules.proofs.PartitionLemmas.{set-partition, partition-set, Contains-from_names, names-from_Contains}
use Rattle.sd_rules.proofs.partition_laws.partitions_are_sets.Goals as goal

pub returns : goal.returns
returns c = λ work i set cpu is. (
  (λ named. set-partition work i set cpu is (names-from_Contains cpu set.1 named)),
  (λ same. Contains-from_names cpu set.1 (partition-set work i set cpu is same)),
)
