use Rattle.std.proofs.Common.{◌≡◌, ◌+◌, ◌-◌, ◌≤◌, length, drop}
use Rattle.sd_audit.specs.Differences.{newlines_before}
use Rattle.sd_audit.proofs.differences.newlines_before.Given as goal

-- those so far and those from here on are all
abbrev pub invariant-loop-i : goal.invariant-loop-i
invariant-loop-i l = record {
  within : l.i ≤ length l.text;
  other_within : l.i ≤ length l.other;
  all : l.newlines + newlines_before (drop l.i l.text) (drop l.i l.other) ≡ newlines_before l.text l.other;
  bound : l.newlines ≤ l.i;
}

abbrev pub decreases-loop-i : goal.decreases-loop-i
decreases-loop-i l = length l.text - l.i
