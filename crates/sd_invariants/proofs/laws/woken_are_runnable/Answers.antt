use Rattle.sd_invariants.proofs.Ready.{reached_ready, ready_cause}
use Rattle.sd_invariants.proofs.WokenLemmas.{woken_after}
use Rattle.sd_invariants.proofs.laws.woken_are_runnable.Goals as goal

pub returns : goal.returns
returns r = λ w n s c h e u reached makes wakes. let ready = reached_ready w n s reached in woken_after w s n c e u ready (ready_cause w s c h e ready makes) wakes
