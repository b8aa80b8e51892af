use Rattle.std.proofs.Common.{◌≡◌, ◌++◌}
use Rattle.std.specs.List.{flat_map, range_with_len}
use Rattle.sd_statistics.specs.declared.activities.Activity.TheVariants.{WaitingFor}
use Rattle.sd_statistics.specs.Threads.{activity_row}
use Rattle.sd_statistics.proofs.threads.push_locks.Given as goal

abbrev pub invariant-loop-l : goal.invariant-loop-l
invariant-loop-l l = l.out.items ≡ l.initial.out.items ++ flat_map (λ k. activity_row l.t l.own (WaitingFor (record { 0 = k }))) (range_with_len 0 l.l)
