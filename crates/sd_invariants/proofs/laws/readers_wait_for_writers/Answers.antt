use Rattle.sd_invariants.proofs.Ready.{reached_ready}
use Rattle.sd_invariants.proofs.laws.readers_wait_for_writers.Goals as goal

pub returns : goal.returns
returns c = λ w n s reached. (reached_ready w n s reached).reads
