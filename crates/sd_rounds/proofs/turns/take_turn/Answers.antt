use Rattle.std.proofs.Common.{length}
use Rattle.sd_world.specs.Plain.{told}
use Rattle.sd_rounds.proofs.TurnLemmas as T
use Rattle.sd_rounds.proofs.turns.take_turn.Goals as goal

pub returns-then-c-work-clause-entries : goal.returns-then-c-work-clause-entries
returns-then-c-work-clause-entries c =
    let x = c.args.world.now in
    T.no_turn c.args.work.now (told c.args.work.now x) (length x.entries.items) c.args.c x.entries.items c.if-c-work.true
