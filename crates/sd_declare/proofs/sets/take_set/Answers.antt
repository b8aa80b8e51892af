use Rattle.sd_declare.specs.Declarations.{cpu_count}
use Rattle.sd_declare.specs.Kept.{declarations}
use Rattle.sd_declare.proofs.PlaceLemmas.{all-below}
use Rattle.sd_declare.proofs.sets.take_set.Goals as goal

pub cpu_ids-requires : goal.cpu_ids-requires
cpu_ids-requires c = all-below (cpu_count (declarations c.args.d.now)) c.args.cpus.now c.in_ok-judge_set.ensures.beyond c.args.d.now.most_cpus
