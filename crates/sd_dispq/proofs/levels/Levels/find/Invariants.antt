use Rattle.std.proofs.Common.{◌≡◌, ◌-◌, length, drop}
use Rattle.sd_boxq.specs.Order.{find_id}
use Rattle.sd_dispq.specs.Levels.{all_of}
use Rattle.sd_dispq.proofs.levels.Levels.find.Given as goal

abbrev pub invariant-loop-index : goal.invariant-loop-index
invariant-loop-index g l = find_id g.T.Ranked.id l.id (all_of (drop l.from l.self)) ≡ find_id g.T.Ranked.id l.id (all_of l.self)

abbrev pub decreases-loop-index : goal.decreases-loop-index
decreases-loop-index g l = length l.self - l.from
