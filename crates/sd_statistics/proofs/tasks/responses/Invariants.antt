use Rattle.std.proofs.Common.{◌≡◌, take}
use Rattle.std.specs.List.{flat_map}
use Rattle.sd_statistics.specs.Tasks.{response_of}
use Rattle.sd_statistics.proofs.tasks.responses.Given as goal

abbrev pub invariant-loop-x : goal.invariant-loop-x
invariant-loop-x l = l.found.items ≡ flat_map (response_of l.t) (take l.x-index l.jobs)
