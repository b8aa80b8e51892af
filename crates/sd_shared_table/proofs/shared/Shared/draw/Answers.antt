use Rattle.std.proofs.Common.{arith}
use Rattle.sd_shared_table.proofs.Asked as A
use Rattle.sd_shared_table.proofs.shared.Shared.draw.Goals as goal

pub fetch_add-requires : goal.fetch_add-requires
fetch_add-requires g c =
    let s = c.args.self.now in (
      c.requires.table,
      (let w = s.words in let h = s.homes_are in omega arith),
      A.draw s.table.shared.key _ c.requires.about _ _ c.args.place.now.me c.requires.desk s.homes _ c.args.event.now _ c.args.hints.now s.homes_are c.requires.event c.requires.hints c.requires.may c.requires.room,
    )
