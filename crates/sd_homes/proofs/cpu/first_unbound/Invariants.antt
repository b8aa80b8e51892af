use Rattle.std.proofs.Common.{◌≡◌}
use Rattle.sd_boxq.specs.Order.{find_first}
use Rattle.sd_homes.specs.Standing.{is_unbound}
use Rattle.sd_homes.proofs.cpu.first_unbound.Given as goal

abbrev pub invariant-loop-record : goal.invariant-loop-record
invariant-loop-record l = find_first is_unbound l.record-iterator ≡ find_first is_unbound l.queue
