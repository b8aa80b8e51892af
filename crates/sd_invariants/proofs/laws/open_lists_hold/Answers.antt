use Rattle.sd_invariants.proofs.Whole.{reached_whole}
use Rattle.sd_invariants.proofs.laws.open_lists_hold.Goals as goal

pub returns : goal.returns
returns c = λ w n s reached. (reached_whole w n s reached).opened
