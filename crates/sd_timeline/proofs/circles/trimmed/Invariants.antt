use Rattle.std.proofs.Common.{◌≡◌, take}
use Rattle.std.specs.Prelude.{filter}
use Rattle.sd_timeline.specs.Circles.{stays}
use Rattle.sd_timeline.proofs.circles.trimmed.Given as goal

abbrev pub invariant-loop-x : goal.invariant-loop-x
invariant-loop-x l = l.found.items ≡ filter (stays l.holds l.all) (take l.x-index l.all)
