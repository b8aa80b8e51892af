use Rattle.std.proofs.Common.{◌≡◌, ◌++◌, map, take}
use Rattle.std.specs.List.{flat_map}
use Rattle.sd_timeline.specs.Labels.{mark_text}
use Rattle.sd_timeline.proofs.picture.put_cycles.Given as goal

abbrev pub invariant-loop-threads : goal.invariant-loop-threads
invariant-loop-threads l = l.out.items ≡ l.initial.out.items ++ flat_map (flat_map (mark_text l.layout)) (map (λ v. v.items) (take l.threads-index l.found))
