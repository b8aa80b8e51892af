use Rattle.std.proofs.Common.{◌≡◌, ◌+◌, slice_get, length}
use Rattle.sd_boxq.proofs.queue.BoxQueue.seek.Given as goal

abbrev pub invariant-loop-item : goal.invariant-loop-item
invariant-loop-item g l =
    (slice_get l.item-iterator l.left ≡ slice_get l.self l.index)
    × (l.left + length l.self ≡ l.index + length l.item-iterator)
