use Rattle.std.proofs.Common.{◌≡◌, ◌-◌, ◌≤◌, length}
use Rattle.sd_rounds.specs.Orders.{shuffled}
use Rattle.sd_rounds.proofs.orders.shuffle.Given as goal

-- what is left to exchange leads to the same
abbrev pub invariant-loop-left : goal.invariant-loop-left
invariant-loop-left l = record {
  same : shuffled (l.left - 1) l.generator l.order ≡ shuffled (length l.initial.order - 1) l.initial.generator l.initial.order;
  many : length l.order ≡ length l.initial.order;
  inside : l.left ≤ length l.initial.order;
}

abbrev pub decreases-loop-left : goal.decreases-loop-left
decreases-loop-left l = l.left - 1
