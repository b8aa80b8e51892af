use Rattle.std.proofs.Common.{◌≡◌, take}
use Rattle.std.specs.List.{flat_map}
use Rattle.sd_statistics.specs.Delays.{delay_if}
use Rattle.sd_statistics.proofs.delays.delays_of.Given as goal

abbrev pub invariant-loop-x : goal.invariant-loop-x
invariant-loop-x l = l.found.items ≡ flat_map (delay_if l.t l.own) (take l.x-index l.wakeups)
