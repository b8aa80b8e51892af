use Rattle.std.proofs.Common.{length}
use Rattle.sd_boxq.proofs.queue.BoxQueue.drop.Given as goal

abbrev pub decreases-loop-n : goal.decreases-loop-n
decreases-loop-n g l = length l.self
