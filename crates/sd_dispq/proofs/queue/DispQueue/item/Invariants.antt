use Rattle.std.proofs.Common.{◌≡◌, ◌-◌, length, slice_get, drop}
use Rattle.sd_dispq.specs.Levels.{all_of}
use Rattle.sd_dispq.proofs.queue.DispQueue.item.Given as goal

abbrev pub invariant-loop-level : goal.invariant-loop-level
invariant-loop-level g l = slice_get (all_of (drop l.from l.self-inside.levels)) l.left ≡ slice_get (all_of l.self-inside.levels) l.index

abbrev pub decreases-loop-level : goal.decreases-loop-level
decreases-loop-level g l = length l.self-inside.levels - l.from
