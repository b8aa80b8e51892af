use Rattle.std.proofs.Common.{◌≡◌, ◌++◌, take}
use Rattle.std.specs.List.{flat_map}
use Rattle.sd_timeline.specs.Circles.{ring_text}
use Rattle.sd_timeline.proofs.circles.put_all_rings.Given as goal

abbrev pub invariant-loop-x : goal.invariant-loop-x
invariant-loop-x l = l.out.items ≡ l.initial.out.items ++ flat_map (ring_text l.layout l.dead) (take l.x-index l.circle)
