use Rattle.std.proofs.Common.{◌≡◌, ◌≤◌, length, drop}
use Rattle.sd_layout.specs.Frames.{last_act}
use Rattle.sd_layout.proofs.frames.last_act.Given as goal

abbrev pub invariant-loop-i : goal.invariant-loop-i
invariant-loop-i l = (l.i ≤ length l.happenings) × (l.last ≡ last_act (drop l.i l.happenings))

abbrev pub decreases-loop-i : goal.decreases-loop-i
decreases-loop-i l = l.i
