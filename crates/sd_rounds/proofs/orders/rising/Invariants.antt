use Rattle.std.proofs.Common.{◌≡◌, length, map}
use Rattle.std.specs.List.{range_with_len}
use Rattle.sd_types.specs.Partitions.{cpu_of_number}
use Rattle.sd_rounds.proofs.orders.rising.Given as goal

abbrev pub invariant-loop-c : goal.invariant-loop-c
invariant-loop-c l = (l.order.items ≡ map cpu_of_number (range_with_len 0 l.c)) × (length l.order.items ≡ l.c)
