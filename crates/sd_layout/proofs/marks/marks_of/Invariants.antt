use Rattle.std.proofs.Common.{◌+◌, take}
use Rattle.sd_layout.specs.Folds.{is_change}
use Rattle.sd_layout.specs.Marks.{AreMarks}
use Rattle.sd_layout.proofs.marks.marks_of.Given as goal

abbrev pub invariant-loop-tick : goal.invariant-loop-tick
invariant-loop-tick l = AreMarks (λ n. is_change (take l.tick-index l.changes) (l.frame.from + n)) l.marks.items
