use Rattle.std.proofs.Common.{◌≡◌, ◌++◌, take}
use Rattle.std.specs.List.{flat_map}
use Rattle.sd_trace.specs.Flows.{load_event}
use Rattle.sd_trace.proofs.flows.put_loads.Given as goal

abbrev pub invariant-loop-x : goal.invariant-loop-x
invariant-loop-x l = l.out.items ≡ l.initial.out.items ++ flat_map (load_event l.work) (take l.x-index l.loads)
