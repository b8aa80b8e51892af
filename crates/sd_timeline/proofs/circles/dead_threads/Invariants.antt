use Rattle.std.proofs.Common.{◌≡◌, map, take}
use Rattle.std.specs.List.{flat_map}
use Rattle.sd_timeline.specs.Circles.{all_of}
use Rattle.sd_timeline.proofs.circles.dead_threads.Given as goal

abbrev pub invariant-loop-threads : goal.invariant-loop-threads
invariant-loop-threads l = l.found.items ≡ flat_map all_of (map (λ v. v.items) (take l.threads-index l.cycles))
