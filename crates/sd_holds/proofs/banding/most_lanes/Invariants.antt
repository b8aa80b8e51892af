use Rattle.std.proofs.Common.{◌≡◌, ◌≤◌, length, drop}
use Rattle.sd_holds.specs.Bands.{most_lanes}
use Rattle.sd_holds.proofs.banding.most_lanes.Given as goal

abbrev pub invariant-loop-i : goal.invariant-loop-i
invariant-loop-i l = (l.i ≤ length l.bands) × (l.most ≡ most_lanes (drop l.i l.bands))

abbrev pub decreases-loop-i : goal.decreases-loop-i
decreases-loop-i l = l.i
