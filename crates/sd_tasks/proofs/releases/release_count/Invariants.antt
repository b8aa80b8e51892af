use Rattle.std.proofs.Common.{◌≡◌, ◌≤◌}
use Rattle.std.specs.List.{count_by, range_with_len}
use Rattle.sd_tasks.specs.Releases.{is_released}
use Rattle.sd_tasks.proofs.releases.release_count.Given as goal

abbrev pub invariant-loop-tick : goal.invariant-loop-tick
invariant-loop-tick l = record {
  counted : l.count ≡ count_by (is_released l.release) (range_with_len 0 l.tick);
  bound : l.count ≤ l.tick;
}
