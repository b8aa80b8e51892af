use Rattle.std.proofs.Common.{option_copied}
use Rattle.sd_world.proofs.EndedLemmas.{was_told}
use Rattle.sd_world.proofs.threads.told_of.Goals as goal

pub returns-then-number-told : goal.returns-then-number-told
returns-then-number-told c = was_told option_copied c.args.told.now c.args.number c.index-told-number.result c.if-number-told.true c.index-told-number.is
