use Rattle.std.proofs.Common.{◌≡◌, map, take}
use Rattle.sd_layout.specs.Rows.{lanes_of}
use Rattle.sd_layout.proofs.rows.all_lanes.Given as goal

abbrev pub invariant-loop-t : goal.invariant-loop-t
invariant-loop-t l = l.lanes.items ≡ map (lanes_of l.frame l.holds) (take l.t-index l.threads)
