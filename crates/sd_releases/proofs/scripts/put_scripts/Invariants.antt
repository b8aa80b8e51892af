use Rattle.std.proofs.Common.{◌≡◌, ◌++◌, length}
use Rattle.std.specs.List.{flat_map, range_with_len}
use Rattle.sd_tasks.specs.WrittenKept.{lines_kept}
use Rattle.sd_releases.specs.Clocks.{clock_script}
use Rattle.sd_releases.proofs.scripts.put_scripts.Given as goal

abbrev pub invariant-loop-place : goal.invariant-loop-place
invariant-loop-place l = lines_kept l.lines.items ≡ lines_kept l.initial.lines.items ++ flat_map (clock_script l.number l.cpu (length l.ops) (lines_kept l.ops)) (range_with_len 0 l.place)
