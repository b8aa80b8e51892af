use Rattle.sd_invariants.proofs.Ready.{reached_ready, ready_cause}
use Rattle.sd_invariants.proofs.laws.events_have_causes.Goals as goal

pub returns : goal.returns
returns r = λ w n s c h e reached makes. ready_cause w s c h e (reached_ready w n s reached) makes
