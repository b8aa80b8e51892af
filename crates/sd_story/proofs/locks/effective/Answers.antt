use Rattle.std.proofs.Common.{ap, ◌∙◌}
use Rattle.sd_types.specs.declared.bodies.ThreadBody.{ThreadBody}
use Rattle.sd_types.specs.Priorities.{eff}
use Rattle.sd_story.proofs.locks.effective.Goals as goal

pub returns-in-Some : goal.returns-in-Some
returns-in-Some g c = c.effective.ensures.value ∙ ap (λ (b : ThreadBody). eff b) c.in-Some.ensures

pub returns-in-None : goal.returns-in-None
returns-in-None g c = ap (λ (b : ThreadBody). eff b) c.in-None.ensures
