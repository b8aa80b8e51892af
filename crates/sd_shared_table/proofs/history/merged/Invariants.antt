use Rattle.std.proofs.Common.{◌≡◌, List, length}
use Rattle.sd_types.specs.declared.events.Entry.{Entry}
use Rattle.sd_shared_table.specs.Logs.{AreLogsOf}
use Rattle.sd_shared_table.proofs.LogLemmas.{Filling}
use Rattle.sd_shared_table.proofs.history.merged.Given as goal

abbrev pub invariant-logs : goal.invariant-logs
invariant-logs l = (h : List Entry) → AreLogsOf h l.fn.logs.items → length h ≡ l.fn.count → Filling h l.logs.items l.entries.items

abbrev pub decreases-logs : goal.decreases-logs
decreases-logs l = goal.left-logs l
