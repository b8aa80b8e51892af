use Rattle.std.proofs.Common.{None, ap, ◌∙◌}
use Rattle.sd_types.specs.declared.bodies.ThreadBody.{ThreadBody}
use Rattle.sd_machine.specs.Bodies.{eff_as_with}
use Rattle.sd_story.proofs.locks.left_priority.Goals as goal

pub returns-in-Some : goal.returns-in-Some
returns-in-Some g c = c.left_of.ensures ∙ ap (λ (b : ThreadBody). eff_as_with b.class c.args.l None b) c.in-Some.ensures

pub returns-in-None : goal.returns-in-None
returns-in-None g c = ap (λ (b : ThreadBody). eff_as_with b.class c.args.l None b) c.in-None.ensures
