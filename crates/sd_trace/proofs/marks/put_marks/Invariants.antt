use Rattle.std.proofs.Common.{◌≡◌, ◌++◌, take}
use Rattle.std.specs.List.{flat_map}
use Rattle.sd_trace.specs.Marks.{mark_text}
use Rattle.sd_trace.proofs.marks.put_marks.Given as goal

abbrev pub invariant-loop-x : goal.invariant-loop-x
invariant-loop-x l = l.out.items ≡ l.initial.out.items ++ flat_map (mark_text l.work) (take l.x-index l.happenings)
