use Rattle.std.proofs.Common.{◌≡◌, ◌++◌, take}
use Rattle.std.specs.Prelude.{filter}
use Rattle.sd_timeline.specs.Moments.{is_drawn}
use Rattle.sd_timeline.proofs.moments.push_all_drawn.Given as goal

abbrev pub invariant-loop-x : goal.invariant-loop-x
invariant-loop-x l = l.found.items ≡ l.initial.found.items ++ filter (is_drawn l.layout) (take l.x-index l.own)
