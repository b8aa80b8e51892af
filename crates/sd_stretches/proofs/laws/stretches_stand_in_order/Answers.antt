use Rattle.sd_stretches.proofs.OrderLemmas.{in_order}
use Rattle.sd_stretches.proofs.laws.stretches_stand_in_order.Goals as goal

pub returns : goal.returns
returns c = in_order
