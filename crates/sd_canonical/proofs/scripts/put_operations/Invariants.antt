use Rattle.std.proofs.Common.{◌≡◌, ◌++◌, false, drop}
use Rattle.sd_canonical.specs.Lines.{operation_lines}
use Rattle.sd_canonical.specs.Canonical.{lines_text}
use Rattle.sd_canonical.proofs.scripts.put_operations.Given as goal

-- what was appended, and the lines that are left, are the whole
abbrev pub invariant-loop-op : goal.invariant-loop-op
invariant-loop-op l = l.out.items ++ lines_text (operation_lines l.work l.entry (drop l.op-index l.ops)) ≡ l.initial.out.items ++ lines_text (operation_lines l.work false l.ops)
