use Rattle.std.proofs.Common.{◌≡◌, ◌++◌, length}
use Rattle.sd_trace.specs.Slices.{state_slices}
use Rattle.sd_trace.proofs.slices.put_states.Given as goal

abbrev pub invariant-loop-x : goal.invariant-loop-x
invariant-loop-x l = l.out.items ++ state_slices l.work l.track l.from l.left ≡ l.initial.out.items ++ state_slices l.work l.track 0 l.initial.left

abbrev pub decreases-loop-x : goal.decreases-loop-x
decreases-loop-x l = length l.left
