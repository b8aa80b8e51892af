use Rattle.std.proofs.Common.{◌≡◌, ◌≤◌, length, drop}
use Rattle.sd_flat.specs.Standings.{greatest_but}
use Rattle.sd_flat.proofs.priorities.greatest_but.Given as goal

abbrev pub invariant-loop-i : goal.invariant-loop-i
invariant-loop-i l = (l.i ≤ length l.threads) × (l.greatest ≡ greatest_but l.l.0 l.but l.i (drop l.i l.threads))

abbrev pub decreases-loop-i : goal.decreases-loop-i
decreases-loop-i l = l.i
