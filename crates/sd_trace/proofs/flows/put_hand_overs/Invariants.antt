use Rattle.std.proofs.Common.{◌≡◌, ◌++◌, take}
use Rattle.std.specs.List.{flat_map}
use Rattle.sd_trace.specs.Flows.{hand_flow}
use Rattle.sd_trace.proofs.flows.put_hand_overs.Given as goal

abbrev pub invariant-loop-x : goal.invariant-loop-x
invariant-loop-x l = l.out.items ≡ l.initial.out.items ++ flat_map (hand_flow l.work) (take l.x-index l.hand_overs)
