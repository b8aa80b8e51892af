use Rattle.std.proofs.Common.{length}
use Rattle.sd_world.specs.Plain.{told}
use Rattle.sd_world.proofs.PlainLemmas as P
use Rattle.sd_rounds.proofs.turns.act_by_reading.Goals as goal

pub act_with-requires-clause-reads : goal.act_with-requires-clause-reads
act_with-requires-clause-reads c =
    let w = c.args.work.now in
    let x = c.args.world.now in
    c.in-Ok.ensures.value (length x.entries.items) (told w x) (P.shown w x c.requires.stands)
