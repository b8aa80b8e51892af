use Rattle.std.proofs.Common.{◌≡◌, ◌++◌, take}
use Rattle.std.specs.List.{flat_map}
use Rattle.sd_canonical.specs.Canonical.{set_text}
use Rattle.sd_canonical.proofs.lines.put_sets.Given as goal

abbrev pub invariant-loop-set : goal.invariant-loop-set
invariant-loop-set l = l.out.items ≡ l.initial.out.items ++ flat_map set_text (take l.set-index l.work.sets)
