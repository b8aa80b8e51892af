use Rattle.sd_search.proofs.RunLemmas.{entries_law}
use Rattle.sd_search.proofs.laws.entries_keep_the_order.Goals as goal

pub returns : goal.returns
returns c = entries_law
