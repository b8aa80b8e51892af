use Rattle.std.proofs.Common.{◌≡◌, ◌++◌}
use Rattle.std.specs.List.{flat_map, range_with_len}
use Rattle.sd_tasks.specs.WrittenKept.{lines_kept}
use Rattle.sd_tasks.specs.Kept.{above_kept}
use Rattle.sd_releases.specs.Tails.{clock_thread}
use Rattle.sd_releases.proofs.tails.put_clock_thread.Given as goal

abbrev pub invariant-loop-place : goal.invariant-loop-place
invariant-loop-place l = lines_kept l.lines.items ≡ lines_kept l.initial.lines.items ++ flat_map (clock_thread (above_kept l.facts) l.number l.cpu) (range_with_len 0 l.place)
