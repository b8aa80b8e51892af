use Rattle.std.proofs.Common.{arith}
use Rattle.sd_deadlines.proofs.NumberingLemmas.{chan_placed}
use Rattle.sd_deadlines.proofs.numbering.chan_number.Goals as goal

pub returns-clause-value : goal.returns-clause-value
returns-clause-value c = let placed = chan_placed c.args.work.now c.args.name.now.text.items in grind (arith, placed)
