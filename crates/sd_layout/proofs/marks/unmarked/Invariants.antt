use Rattle.std.proofs.Common.{false}
use Rattle.sd_layout.specs.Marks.{AreMarks}
use Rattle.sd_layout.proofs.marks.unmarked.Given as goal

abbrev pub invariant-loop : goal.invariant-loop
invariant-loop l = AreMarks (λ n. false) l.marks.items
