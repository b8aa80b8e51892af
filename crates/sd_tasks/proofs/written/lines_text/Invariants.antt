use Rattle.std.proofs.Common.{◌≡◌, take}
use Rattle.sd_tasks.specs.Written.{text_of}
use Rattle.sd_tasks.specs.WrittenKept.{lines_kept}
use Rattle.sd_tasks.proofs.written.lines_text.Given as goal

abbrev pub invariant-loop-line : goal.invariant-loop-line
invariant-loop-line l = l.text.items ≡ text_of (lines_kept (take l.line-index l.lines))
