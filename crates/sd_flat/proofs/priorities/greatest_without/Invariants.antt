use Rattle.std.proofs.Common.{◌≡◌, ◌≤◌, length, drop}
use Rattle.sd_types.specs.Priorities.{greatest_willed}
use Rattle.sd_types.specs.Willed.{without_number}
use Rattle.sd_flat.proofs.priorities.greatest_without.Given as goal

abbrev pub invariant-loop-i : goal.invariant-loop-i
invariant-loop-i l = (l.i ≤ length l.willed) × (l.greatest ≡ greatest_willed l.base (without_number l.l (drop l.i l.willed)))

abbrev pub decreases-loop-i : goal.decreases-loop-i
decreases-loop-i l = l.i
