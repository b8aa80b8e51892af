use Rattle.std.proofs.Common.{◌≡◌, map, take}
use Rattle.std.specs.List.{flat_map}
use Rattle.sd_tasks.specs.Kept.{member_kept}
use Rattle.sd_tasks.specs.WrittenKept.{lines_kept}
use Rattle.sd_releases.specs.Clocks.{unit_lines}
use Rattle.sd_releases.proofs.clocks.units.Given as goal

abbrev pub invariant-loop-thread : goal.invariant-loop-thread
invariant-loop-thread l = lines_kept l.found.items ≡ flat_map (unit_lines l.number l.cpu l.tick) (map member_kept (take l.thread-index l.facts.threads.items))
