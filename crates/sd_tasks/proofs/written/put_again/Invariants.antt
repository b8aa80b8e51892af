use Rattle.std.proofs.Common.{◌≡◌, ◌++◌}
use Rattle.sd_tasks.specs.Written.{again}
use Rattle.sd_tasks.specs.WrittenKept.{lines_kept}
use Rattle.sd_tasks.proofs.written.put_again.Given as goal

abbrev pub invariant-loop-k : goal.invariant-loop-k
invariant-loop-k l = lines_kept l.out.items ≡ lines_kept l.initial.out.items ++ again l.k (lines_kept l.lines)
