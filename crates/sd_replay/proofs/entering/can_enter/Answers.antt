use Rattle.std.proofs.Common.{sym, ◌∙◌}
use Rattle.sd_replay.proofs.EnteringLemmas.{enters_some, enters_none}
use Rattle.sd_replay.proofs.entering.can_enter.Goals as goal

pub returns-clause-some : goal.returns-clause-some
returns-clause-some c = λ e. enters_some c.args.work.now c.args.s.now c.args.c (sym c.enters.ensures ∙ e)

pub returns-clause-none : goal.returns-clause-none
returns-clause-none c = λ e hints. enters_none c.args.work.now c.args.s.now c.args.c hints (sym c.enters.ensures ∙ e)
