use Rattle.std.proofs.Common.{sym, ◌∙◌}
use Rattle.sd_hand.proofs.TellLemmas.{open_told}
use Rattle.sd_hand.proofs.look.ActingLook.open_cpus.Goals as goal

pub returns-in-Ok-clause-value : goal.returns-in-Ok-clause-value
returns-in-Ok-clause-value c n s sh = let a = c.in-Ok.ensures.value in a.2 ∙ sym (open_told c.args.self.now n s a.0 sh c.args.p a.1)
