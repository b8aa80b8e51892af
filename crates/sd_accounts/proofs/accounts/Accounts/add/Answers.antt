use Rattle.std.proofs.Common.{refl}
use Rattle.sd_accounts.proofs.accounts.Accounts.add.Goals as goal

pub returns : goal.returns
returns c w es few taken = c.add_event.ensures w es c.args.entry.now refl refl few taken
