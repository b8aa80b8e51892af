use Rattle.std.proofs.Common.{◌≡◌, ◌≤◌, length, drop}
use Rattle.sd_types.specs.Willed.{number_for}
use Rattle.sd_locks.proofs.inheriting.number_for.Given as goal

abbrev pub invariant-loop-i : goal.invariant-loop-i
invariant-loop-i l = (l.i ≤ length l.willed) × (l.first ≡ number_for l.l (drop l.i l.willed))

abbrev pub decreases-loop-i : goal.decreases-loop-i
decreases-loop-i l = l.i
