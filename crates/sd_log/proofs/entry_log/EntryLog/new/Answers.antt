use Rattle.sd_log.proofs.LogLemmas.{entries-none}
use Rattle.sd_log.proofs.entry_log.EntryLog.new.Goals as goal

pub returns : goal.returns
returns c = record { items = rw c.new.ensures.items (entries-none c.new-2.result.items 0) }
