use Rattle.sd_search.proofs.RunLemmas.{ranks_law}
use Rattle.sd_search.proofs.laws.ranks_tell_the_order.Goals as goal

pub returns : goal.returns
returns c = ranks_law
