use Rattle.std.proofs.Common.{arith}
use Rattle.sd_deadlines.proofs.NumberingLemmas.{thread_placed}
use Rattle.sd_deadlines.proofs.numbering.thread_number.Goals as goal

pub returns : goal.returns
returns c = let placed = thread_placed c.args.work.now c.args.name.now.text.items in grind (arith, placed)
