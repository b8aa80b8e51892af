use Rattle.std.proofs.Common.{◌≡◌, take}
use Rattle.std.specs.Prelude.{filter}
use Rattle.sd_timeline.specs.Arrows.{is_drawn_hand}
use Rattle.sd_timeline.proofs.arrows.drawn_hands.Given as goal

abbrev pub invariant-loop-x : goal.invariant-loop-x
invariant-loop-x l = l.found.items ≡ filter (is_drawn_hand l.layout) (take l.x-index l.history.hand_overs.items)
