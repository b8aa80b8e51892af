use Rattle.std.proofs.Common.{length}
use Rattle.sd_invariants.proofs.Whole.{fit_reached}
use Rattle.sd_world.specs.Plain.{told}
use Rattle.sd_world.proofs.PlainLemmas as P
use Rattle.sd_rounds.proofs.turns.marked_of.Goals as goal

pub returns-in-Ok : goal.returns-in-Ok
returns-in-Ok c =
    let w = c.args.work.now in
    let x = c.args.world.now in
    let n = length x.entries.items in
    c.in-Ok.ensures.value n (told w x) (P.shown w x c.requires) (λ k. (fit_reached w n (told w x) (P.reached w x c.requires)).counts k.0)
