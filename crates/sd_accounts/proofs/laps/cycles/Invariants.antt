use Rattle.std.proofs.Common.{◌≡◌, length, map}
use Rattle.sd_machine.specs.Cycles.{cycles_below}
use Rattle.sd_machine.specs.LockGraph.{graph}
use Rattle.sd_accounts.proofs.laps.cycles.Given as goal

abbrev pub invariant-loop-first : goal.invariant-loop-first
invariant-loop-first l = map (λ v. v.items) l.found.items ≡ cycles_below (graph l.s) (length l.s.threads) l.first
