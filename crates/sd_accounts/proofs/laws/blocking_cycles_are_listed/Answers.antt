use Rattle.std.proofs.Common.{length}
use Rattle.sd_machine.proofs.CycleLemmas.{lists_cycles}
use Rattle.sd_machine.specs.LockGraph.{graph, cycles_of}
use Rattle.sd_accounts.proofs.StateGraphs.{waits_inside}
use Rattle.sd_accounts.proofs.laws.blocking_cycles_are_listed.Goals as goal

pub returns : goal.returns
unfolding cycles_of
returns c s = lists_cycles (graph s) (length s.threads) (waits_inside s)
