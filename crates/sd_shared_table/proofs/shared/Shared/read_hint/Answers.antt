use Rattle.sd_shared_table.proofs.Asked as A
use Rattle.sd_shared_table.proofs.shared.Shared.read_hint.Goals as goal

pub load-requires : goal.load-requires
load-requires g c =
    let s = c.args.self.now in (
      c.requires.table,
      c.hint_at-word.ensures.inside,
      A.read_hint s.table.shared.key _ c.requires.about.0 _ _ c.args.place.now.me c.requires.desk c.hint_at-word.result c.args.c _ c.args.which _ c.requires.about.1 c.requires.about.2 c.hint_at-word.ensures.index c.requires.inside,
    )
