use Rattle.std.proofs.Common.{◌≡◌, map}
use Rattle.std.specs.List.{range_with_len}
use Rattle.sd_tasks.specs.Kept.{above_kept}
use Rattle.sd_releases.specs.Clocks.{clock_count}
use Rattle.sd_releases.proofs.counts.clock_counts.Given as goal

abbrev pub invariant-loop-cpu : goal.invariant-loop-cpu
invariant-loop-cpu l = l.counts.items ≡ map (clock_count (above_kept l.facts) l.number) (range_with_len 0 l.cpu)
