use Rattle.std.proofs.Common.{◌≡◌, ◌≤◌}
use Rattle.sd_deadlines.specs.Means.{divisor_up_to}
use Rattle.sd_deadlines.proofs.means.common_divisor.Given as goal

abbrev pub invariant-loop-i : goal.invariant-loop-i
invariant-loop-i l = (l.divisor ≡ divisor_up_to l.a l.b l.i) × (1 ≤ l.divisor)
