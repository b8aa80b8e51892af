use Rattle.std.proofs.Common.{◌≡◌, ◌++◌, length, None}
use Rattle.sd_timeline.specs.Arrows.{hand_texts}
use Rattle.sd_timeline.proofs.arrows.put_hand_overs.Given as goal

abbrev pub invariant-loop-x : goal.invariant-loop-x
invariant-loop-x l = l.out.items ++ hand_texts l.work l.layout l.earlier l.nth l.left ≡ l.initial.out.items ++ hand_texts l.work l.layout None 0 l.hand_overs

abbrev pub decreases-loop-x : goal.decreases-loop-x
decreases-loop-x l = length l.left
