use Rattle.std.proofs.Common.{◌≡◌, ◌*◌, ◌≤◌, take}
use Rattle.std.specs.Prelude.{sum}
use Rattle.sd_layout.proofs.layouts.sum_of.Given as goal

abbrev pub invariant-loop-x : goal.invariant-loop-x
invariant-loop-x l = record {
  value : l.sum ≡ sum (take l.x-index l.lanes);
  bound : l.sum ≤ l.x-index * 65535;
}
