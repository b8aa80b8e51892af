use Rattle.std.proofs.Common.{◌≡◌, map, take}
use Rattle.sd_state.specs.Opening.{first_count}
use Rattle.sd_opening.proofs.start.first_counts.Given as goal

abbrev pub invariant-loop-chan : goal.invariant-loop-chan
invariant-loop-chan l = l.counts.items ≡ map first_count (take l.chan-index l.chan-items)
