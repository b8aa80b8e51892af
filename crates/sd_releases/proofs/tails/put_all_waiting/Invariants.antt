use Rattle.std.proofs.Common.{◌≡◌, ◌++◌, map, take}
use Rattle.std.specs.List.{flat_map}
use Rattle.sd_tasks.specs.Kept.{member_kept}
use Rattle.sd_tasks.specs.WrittenKept.{lines_kept}
use Rattle.sd_releases.specs.Tails.{waiting_script}
use Rattle.sd_releases.proofs.tails.put_all_waiting.Given as goal

abbrev pub invariant-loop-thread : goal.invariant-loop-thread
invariant-loop-thread l = lines_kept l.lines.items ≡ lines_kept l.initial.lines.items ++ flat_map waiting_script (map member_kept (take l.thread-index l.threads))
