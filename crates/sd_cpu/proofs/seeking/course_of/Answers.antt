use Rattle.std.proofs.Common.{refl}
use Rattle.sd_cpu.proofs.seeking.course_of.Goals as goal

pub returns-in-Ok-clause-value : goal.returns-in-Ok-clause-value
returns-in-Ok-clause-value c = λ n s shown. (refl, c.in-Ok.ensures.value n s shown)
