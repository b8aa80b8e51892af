use Rattle.std.proofs.Common.{◌≡◌, ◌++◌, take}
use Rattle.std.specs.List.{flat_map}
use Rattle.sd_trace.specs.Slices.{run_slice}
use Rattle.sd_trace.proofs.slices.put_run_slices.Given as goal

abbrev pub invariant-loop-x : goal.invariant-loop-x
invariant-loop-x l = l.out.items ≡ l.initial.out.items ++ flat_map (run_slice l.work l.c) (take l.x-index l.slices)
