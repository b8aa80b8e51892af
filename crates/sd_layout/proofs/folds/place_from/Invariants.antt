use Rattle.std.proofs.Common.{◌≡◌, ◌+◌, ◌*◌, ◌≤◌, length}
use Rattle.sd_layout.specs.Folds.{place_from}
use Rattle.sd_layout.proofs.folds.place_from.Given as goal

abbrev pub invariant-loop-x : goal.invariant-loop-x
invariant-loop-x l = record {
  value : l.sum + place_from l.scale l.start l.tick l.left ≡ place_from l.scale l.from l.tick l.folds;
  bound : l.sum + length l.left * 2199023255552 ≤ 2199023255552000;
}

abbrev pub decreases-loop-x : goal.decreases-loop-x
decreases-loop-x l = length l.left
