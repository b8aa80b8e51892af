use Rattle.std.proofs.Common.{◌≡◌, ◌++◌, take}
use Rattle.sd_tasks.specs.WrittenKept.{lines_kept}
use Rattle.sd_tasks.proofs.written.put_all.Given as goal

abbrev pub invariant-loop-line : goal.invariant-loop-line
invariant-loop-line l = lines_kept l.out.items ≡ lines_kept l.initial.out.items ++ lines_kept (take l.line-index l.lines)
