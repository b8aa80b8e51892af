use Rattle.std.proofs.Common.{length, ◌∙◌}
use Rattle.sd_world.specs.Plain.{told}
use Rattle.sd_world.proofs.PlainLemmas as P
use Rattle.sd_rounds.proofs.turns.act_by_dispatch.Goals as goal

pub act_on-requires-clause-plan : goal.act_on-requires-clause-plan
act_on-requires-clause-plan c =
    let w = c.args.work.now in
    let x = c.args.world.now in
    c.in-Some.ensures (length x.entries.items) (told w x) (P.shown w x c.requires.stands) ∙ c.requires.plan
