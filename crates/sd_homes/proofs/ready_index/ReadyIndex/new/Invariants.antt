use Rattle.std.proofs.Common.{◌≡◌, None, replicate}
use Rattle.sd_homes.proofs.ready_index.ReadyIndex.new.Given as goal

abbrev pub invariant-loop : goal.invariant-loop
invariant-loop l = (l.priorities.items ≡ replicate l.counter None) × (l.priorities.cap ≡ l.initial.priorities.cap)
