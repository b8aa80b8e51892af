use Rattle.sd_invariants.proofs.Ready.{reached_ready}
use Rattle.sd_invariants.proofs.laws.duties_serve.Goals as goal

pub returns : goal.returns
returns c = λ w n s reached. (reached_ready w n s reached).serves
