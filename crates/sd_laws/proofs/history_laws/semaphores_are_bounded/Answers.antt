use Rattle.sd_laws.proofs.Handed.{bounded_law}
use Rattle.sd_laws.proofs.history_laws.semaphores_are_bounded.Goals as goal

pub returns : goal.returns
returns c = λ w n s reached k. bounded_law w n s reached k
