use Rattle.std.proofs.Common.{◌≡◌, take}
use Rattle.std.specs.List.{flat_map}
use Rattle.sd_statistics.specs.Jobs.{counted_if}
use Rattle.sd_statistics.proofs.jobs.counted_up.Given as goal

abbrev pub invariant-loop-x : goal.invariant-loop-x
invariant-loop-x l = l.units.items ≡ flat_map counted_if (take l.x-index l.told)
