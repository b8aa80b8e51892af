use Rattle.std.proofs.Common.{◌≡◌, ◌++◌, ◌∷◌, []}
use Rattle.sd_lines.specs.Said.{word_of}
use Rattle.sd_tasks.specs.Blocks.{wait_line}
use Rattle.sd_tasks.specs.Written.{again}
use Rattle.sd_tasks.specs.WrittenKept.{lines_kept}
use Rattle.sd_tasks.proofs.openings.put_waits.Given as goal

abbrev pub invariant-loop-k : goal.invariant-loop-k
invariant-loop-k l = lines_kept l.lines.items ≡ lines_kept l.initial.lines.items ++ again l.k (wait_line (word_of l.name) l.number ∷ [])
