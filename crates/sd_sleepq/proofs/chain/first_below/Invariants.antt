use Rattle.std.proofs.Common.{◌≡◌}
use Rattle.sd_boxq.specs.Order.{find_below}
use Rattle.sd_sleepq.proofs.chain.first_below.Given as goal

abbrev pub invariant-loop-item : goal.invariant-loop-item
invariant-loop-item g l = find_below g.T.Ranked.key l.below l.item-iterator ≡ find_below g.T.Ranked.key l.below l.queue
