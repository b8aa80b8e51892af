use Rattle.std.proofs.Common.{◌≡◌, ◌++◌, take}
use Rattle.std.specs.List.{flat_map}
use Rattle.sd_timeline.specs.Labels.{mark_text}
use Rattle.sd_timeline.proofs.labels.put_marks.Given as goal

abbrev pub invariant-loop-t : goal.invariant-loop-t
invariant-loop-t l = l.out.items ≡ l.initial.out.items ++ flat_map (mark_text l.layout) (take l.t-index l.threads)
