use Rattle.std.proofs.Common.{◌≡◌, ◌≤◌, length, drop}
use Rattle.sd_types.specs.Priorities.{greatest_willed}
use Rattle.sd_types.specs.Willed.{with_number}
use Rattle.sd_locks.proofs.inheriting.greatest_with.Given as goal

abbrev pub invariant-loop-i : goal.invariant-loop-i
invariant-loop-i l =
    (l.i ≤ length l.willed) × (l.without ≡ greatest_willed l.base (drop l.i l.willed))
    × (l.greatest ≡ greatest_willed l.base (with_number l.l l.n (drop l.i l.willed)))

abbrev pub decreases-loop-i : goal.decreases-loop-i
decreases-loop-i l = l.i
