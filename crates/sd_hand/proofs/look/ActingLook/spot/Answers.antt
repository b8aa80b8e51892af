use Rattle.std.proofs.Common.{◌∙◌}
use Rattle.sd_hand.proofs.TellLemmas.{spot_told}
use Rattle.sd_hand.proofs.look.ActingLook.spot.Goals as goal

pub returns-in-Ok-clause-value : goal.returns-in-Ok-clause-value
returns-in-Ok-clause-value c n s sh = c.spot_at.ensures ∙ spot_told c.args.self.now n s sh c.args.t.0 c.in-Ok.at c.in-Ok.ensures
