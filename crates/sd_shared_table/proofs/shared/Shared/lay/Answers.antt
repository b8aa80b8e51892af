use Rattle.std.proofs.Common.{arith}
use Rattle.sd_shared_table.proofs.Asked as A
use Rattle.sd_shared_table.proofs.shared.Shared.lay.Goals as goal

pub store-requires : goal.store-requires
store-requires g c = (
  c.requires.table,
  (let w = c.args.self.now.words in let i = c.requires.inside in omega arith),
  A.lay c.args.self.now.table.shared.key _ c.requires.about _ _ c.args.place.now.me c.requires.desk c.args.k c.requires.home.0 c.requires.home.1 c.requires.held c.requires.settled c.requires.home.2,
)
