use Rattle.std.proofs.Common.{◌≡◌, take}
use Rattle.std.specs.Prelude.{filter}
use Rattle.sd_timeline.specs.Circles.{is_last_want}
use Rattle.sd_timeline.proofs.circles.last_wants.Given as goal

abbrev pub invariant-loop-x : goal.invariant-loop-x
invariant-loop-x l = l.found.items ≡ filter (is_last_want l.work l.layout) (take l.x-index l.pieces)
