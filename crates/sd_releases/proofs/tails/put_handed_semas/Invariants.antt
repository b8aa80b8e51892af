use Rattle.std.proofs.Common.{◌≡◌, ◌++◌}
use Rattle.std.specs.List.{flat_map, range_with_len}
use Rattle.sd_tasks.specs.WrittenKept.{lines_kept}
use Rattle.sd_releases.specs.Tails.{handed_sema}
use Rattle.sd_releases.proofs.tails.put_handed_semas.Given as goal

abbrev pub invariant-loop-place : goal.invariant-loop-place
invariant-loop-place l = lines_kept l.lines.items ≡ lines_kept l.initial.lines.items ++ flat_map (handed_sema l.number l.cpu) (range_with_len 0 l.place)
