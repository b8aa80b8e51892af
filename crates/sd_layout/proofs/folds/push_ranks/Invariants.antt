use Rattle.std.proofs.Common.{◌≡◌, ◌++◌, take}
use Rattle.std.specs.List.{flat_map}
use Rattle.sd_layout.specs.Folds.{ranked_in}
use Rattle.sd_layout.proofs.folds.push_ranks.Given as goal

abbrev pub invariant-loop-x : goal.invariant-loop-x
invariant-loop-x l = l.changes.items ≡ l.initial.changes.items ++ flat_map (ranked_in l.frame) (take l.x-index l.ranks)
