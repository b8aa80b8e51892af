use Rattle.std.proofs.Common.{take}
use Rattle.sd_accounts.specs.Counters.{HasTaken}
use Rattle.sd_program.proofs.writing.counted.Given as goal

abbrev pub invariant-loop-i : goal.invariant-loop-i
invariant-loop-i l = HasTaken l.work (take l.i l.entries.items) l.accounts
