use Rattle.std.proofs.Common.{ap, ◌+◌, arith}
use Rattle.sd_shared_table.proofs.Asked as A
use Rattle.sd_shared_table.proofs.shared.Shared.name.Goals as goal

pub store-requires : goal.store-requires
store-requires g c =
    let s = c.args.self.now in (
      c.requires.table,
      (let w = s.words in let h = s.homes_are in let i = c.requires.inside in omega arith),
      A.name s.table.shared.key _ c.requires.about.0 _ _ c.args.place.now.me c.requires.desk (s.homes + 1 + c.args.t) c.args.t _ c.args.k c.requires.about.1 (ap (λ h. h + 1 + c.args.t) s.homes_are) c.requires.inside c.requires.here,
    )
