use Rattle.sd_shared_table.proofs.LogLemmas.{Putting}
use Rattle.sd_shared_table.proofs.history.put.Given as goal

abbrev pub invariant-entries : goal.invariant-entries
invariant-entries l = Putting l.fn.log.items l.fn.entries.items l.log.items l.entries.items

abbrev pub decreases-entries : goal.decreases-entries
decreases-entries l = goal.left-entries l
