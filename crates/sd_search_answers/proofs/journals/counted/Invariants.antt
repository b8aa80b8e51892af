use Rattle.std.proofs.Common.{take}
use Rattle.sd_accounts.specs.Counters.{HasTaken}
use Rattle.sd_search_answers.proofs.journals.counted.Given as goal

abbrev pub invariant-loop-entry : goal.invariant-loop-entry
invariant-loop-entry l = HasTaken l.work (take l.entry-index l.entries) l.accounts
