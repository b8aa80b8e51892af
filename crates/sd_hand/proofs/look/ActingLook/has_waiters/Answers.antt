use Rattle.std.proofs.Common.{is_some, sym, ap, ◌∙◌}
use Rattle.sd_hand.proofs.TellLemmas.{waiters_told}
use Rattle.sd_hand.proofs.look.ActingLook.has_waiters.Goals as goal

pub returns-in-Ok-clause-value : goal.returns-in-Ok-clause-value
returns-in-Ok-clause-value c n s sh = let a = c.in-Ok.ensures in c.is_some.ensures ∙ ap is_some a.2 ∙ sym (waiters_told c.args.self.now n s a.0 sh c.args.l a.1)
