use Rattle.sd_search.proofs.StoreLemmas.{is_inserted}
use Rattle.sd_search.proofs.store.put.Goals as goal

pub returns : goal.returns
returns c = is_inserted c.args.states.now.keys c.insert_full.new.self.keys c.args.bytes c.in_ok-is_new.is_new c.in_ok-is_new.ensures.added c.in_ok-is_new.ensures.keys
