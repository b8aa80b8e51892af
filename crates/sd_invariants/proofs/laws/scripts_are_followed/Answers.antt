use Rattle.sd_invariants.proofs.Ready.{reached_ready}
use Rattle.sd_invariants.proofs.laws.scripts_are_followed.Goals as goal

pub returns : goal.returns
returns c = λ w n s reached. (reached_ready w n s reached).scripted
