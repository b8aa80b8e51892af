use Rattle.std.proofs.Common.{ap, ◌∙◌}
use Rattle.sd_machine.specs.Hints.{hint_of}
use Rattle.sd_world.proofs.HintLemmas.{hint_is}
use Rattle.sd_world.proofs.showing.shown_hint.Goals as goal

pub returns : goal.returns
returns c n s sh = c.hint_of.ensures ∙ (ap hint_of (c.priority.ensures.value n s sh) ∙ hint_is s c.args.which c.args.d)
