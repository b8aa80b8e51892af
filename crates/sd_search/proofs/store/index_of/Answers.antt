use Rattle.sd_search.proofs.StoreLemmas.{index_is}
use Rattle.sd_search.proofs.store.index_of.Goals as goal

pub returns : goal.returns
returns c = index_is c.args.bytes.now c.args.states.now.keys c.get_index_of.result c.get_index_of.ensures.index c.get_index_of.ensures.found
