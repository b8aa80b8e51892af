use Rattle.std.proofs.Common.{◌≡◌, ◌-◌, ◌+◌, ◌≤◌, length, drop}
use Rattle.sd_dispadmin.specs.TableText.{word_lines}
use Rattle.sd_tasks.specs.Kept.{seen_kept}
use Rattle.sd_tasks.specs.Readings.{read, reading_of}
use Rattle.sd_tasks.proofs.read.read_set.Given as goal

-- the reading of what is left is that of the whole
abbrev pub invariant-lines : goal.invariant-lines
invariant-lines l = record {
  reading : read l.number (seen_kept l.seen) (word_lines (drop l.from l.bytes)) ≡ reading_of l.bytes;
  inside : l.from ≤ length l.bytes + 1;
  numbered : l.number ≤ l.from + 1;
}

abbrev pub decreases-lines : goal.decreases-lines
decreases-lines l = length l.bytes + 1 - l.from
