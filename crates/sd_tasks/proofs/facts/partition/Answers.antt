use Rattle.std.proofs.Common.{arith}
use Rattle.sd_lines.proofs.PlaceLemmas.{position-map}
use Rattle.sd_tasks.specs.Above.{names_cpu, partition}
use Rattle.sd_tasks.specs.Kept.{set_kept}
use Rattle.sd_tasks.proofs.facts.partition.Goals as goal

pub returns-in-Some : goal.returns-in-Some
unfolding partition
returns-in-Some c = let kept = position-map set_kept (names_cpu c.args.cpu) c.args.facts.now.sets.items in grind (arith, kept)

pub returns-in-None : goal.returns-in-None
unfolding partition
returns-in-None c = let kept = position-map set_kept (names_cpu c.args.cpu) c.args.facts.now.sets.items in grind (arith, kept)
