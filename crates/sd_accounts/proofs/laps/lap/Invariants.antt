use Rattle.std.proofs.Common.{◌≡◌, ◌-◌, ◌++◌, length, option_map}
use Rattle.sd_machine.specs.Cycles.{lap}
use Rattle.sd_machine.specs.LockGraph.{graph}
use Rattle.sd_accounts.proofs.laps.lap.Given as goal

-- the threads that were passed and the rest of the lap are the whole lap
abbrev pub invariant-loop-i : goal.invariant-loop-i
invariant-loop-i l = option_map (λ ts. l.threads.items ++ ts) (lap (graph l.s) l.first (length l.s.threads - l._i) l.t) ≡ lap (graph l.s) l.first (length l.s.threads) l.first
