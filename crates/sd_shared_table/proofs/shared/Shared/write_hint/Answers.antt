use Rattle.std.proofs.Common.{arith}
use Rattle.sd_shared_table.proofs.Asked as A
use Rattle.sd_shared_table.proofs.shared.Shared.write_hint.Goals as goal

pub store-requires : goal.store-requires
store-requires g c =
    let s = c.args.self.now in (
      c.requires.table,
      c.hint_at-word.ensures.inside,
      A.write_hint s.table.shared.key _ c.requires.about _ _ c.args.place.now.me c.requires.desk c.hint_at-word.result c.args.c.0 c.from.result c.args.which c.hint_at-word.ensures.index c.requires.inside (let e = c.from.ensures in omega (arith, e)),
    )
