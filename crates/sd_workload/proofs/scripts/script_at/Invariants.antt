use Rattle.std.proofs.Common.{◌≡◌, ◌+◌, ◌-◌, ◌≤◌, [], length}
use Rattle.sd_types.specs.Scripts.{held_by, EachOpFits}
use Rattle.sd_declare.specs.Kept.{declarations}
use Rattle.sd_workload.specs.LineStarts.{judged_from}
use Rattle.sd_workload.specs.Texts.{InScript}
use Rattle.sd_workload.proofs.scripts.script_at.Given as goal

-- no line so far is at fault
abbrev pub invariant-lines : goal.invariant-lines
invariant-lines l = record {
  held : l.so_far.held.items ≡ held_by l.so_far.ops.items;
  fits : EachOpFits l.so_far.ops.items;
  short : length l.so_far.ops.items ≤ 256;
  after : l.fn.at.from ≤ l.here.from;
  numbered : l.here.number ≤ l.here.from + 1;
  rest : judged_from l.bytes l.fn.at (declarations l.d) (InScript l.fn.thread []) ≡ judged_from l.bytes l.here (declarations l.d) (InScript l.fn.thread l.so_far.ops.items);
}

abbrev pub decreases-lines : goal.decreases-lines
decreases-lines l = length l.bytes + 2 - l.here.from
