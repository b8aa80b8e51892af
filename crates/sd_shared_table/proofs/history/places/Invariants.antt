use Rattle.std.proofs.Common.{◌≡◌, length}
use Rattle.sd_shared_table.proofs.history.places.Given as goal

abbrev pub invariant-loop : goal.invariant-loop
invariant-loop l = length l.entries.items ≡ l.counter
