use Rattle.std.proofs.Common.{◌≡◌, ◌++◌, take}
use Rattle.std.specs.List.{flat_map}
use Rattle.sd_timeline.specs.Head.{fold_marks}
use Rattle.sd_timeline.proofs.head.put_folds.Given as goal

abbrev pub invariant-loop-x : goal.invariant-loop-x
invariant-loop-x l = l.out.items ≡ l.initial.out.items ++ flat_map (fold_marks l.layout) (take l.x-index l.folds)
