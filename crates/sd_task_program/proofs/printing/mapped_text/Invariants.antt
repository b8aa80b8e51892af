use Rattle.std.proofs.Common.{◌≡◌, take}
use Rattle.sd_tasks.specs.WrittenKept.{lines_kept}
use Rattle.sd_task_program.specs.Printed.{mapped_text}
use Rattle.sd_task_program.proofs.printing.mapped_text.Given as goal

abbrev pub invariant-loop-line : goal.invariant-loop-line
invariant-loop-line l = l.text.items ≡ mapped_text (lines_kept (take l.line-index l.lines))
