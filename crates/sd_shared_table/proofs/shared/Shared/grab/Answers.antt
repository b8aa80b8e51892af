use Rattle.std.proofs.Common.{arith}
use Rattle.sd_shared_table.proofs.Asked as A
use Rattle.sd_shared_table.proofs.shared.Shared.grab.Goals as goal

pub compare_exchange-requires : goal.compare_exchange-requires
compare_exchange-requires g c = (
  c.requires.table,
  (let w = c.args.self.now.words in let i = c.requires.inside in omega arith),
  A.grab c.args.self.now.table.shared.key _ c.requires.about _ _ c.args.place.now.me c.requires.desk c.args.k c.args.mine c.requires.inside c.requires.mine c.requires.fresh,
)
