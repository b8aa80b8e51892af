use Rattle.std.proofs.Common.{ap}
use Rattle.sd_types.specs.declared.bodies.ThreadBody.{ThreadBody}
use Rattle.sd_story.proofs.sleeping.operation_number.Goals as goal

pub returns-in-Some : goal.returns-in-Some
returns-in-Some g c = ap (λ (b : ThreadBody). b.op) c.in-Some.ensures

pub returns-in-None : goal.returns-in-None
returns-in-None g c = ap (λ (b : ThreadBody). b.op) c.in-None.ensures
