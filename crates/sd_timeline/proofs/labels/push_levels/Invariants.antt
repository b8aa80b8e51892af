use Rattle.std.proofs.Common.{◌≡◌, ◌++◌, take}
use Rattle.std.specs.Prelude.{filter}
use Rattle.sd_timeline.specs.Labels.{has_room}
use Rattle.sd_timeline.proofs.labels.push_levels.Given as goal

abbrev pub invariant-loop-x : goal.invariant-loop-x
invariant-loop-x l = l.found.items ≡ l.initial.found.items ++ filter (has_room l.layout) (take l.x-index l.own)
