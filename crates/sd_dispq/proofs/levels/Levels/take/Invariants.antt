use Rattle.std.proofs.Common.{◌≡◌, ◌-◌, length}
use Rattle.sd_dispq.proofs.QueueLemmas.{AreWithout}
use Rattle.sd_dispq.proofs.levels.Levels.take.Given as goal

abbrev pub invariant-loop-index : goal.invariant-loop-index
invariant-loop-index g l = (l.self ≡ l.initial.self) × AreWithout g.T.Ranked.id l.id l.self l.from

abbrev pub decreases-loop-index : goal.decreases-loop-index
decreases-loop-index g l = length l.self - l.from
