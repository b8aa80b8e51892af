use Rattle.std.proofs.Common.{◌≡◌, ◌++◌, take}
use Rattle.std.specs.List.{flat_map}
use Rattle.sd_trace.specs.Holds.{hold_slice}
use Rattle.sd_trace.proofs.held.put_holds.Given as goal

abbrev pub invariant-loop-band : goal.invariant-loop-band
invariant-loop-band l = l.out.items ≡ l.initial.out.items ++ flat_map (hold_slice l.work) (take l.band-index l.own)
