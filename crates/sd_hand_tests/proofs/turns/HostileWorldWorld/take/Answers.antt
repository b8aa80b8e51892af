use Rattle.std.proofs.Common.{Some, sym, ap, ◌∙◌}
use Rattle.sd_hand_tests.proofs.CallLemmas.{call_good, gets, may_take, planned, stop_good, stopped, unshared}
use Rattle.sd_hand_tests.proofs.HostileLemmas.{fetched_good}
use Rattle.sd_hand_tests.proofs.turns.HostileWorldWorld.take.Goals as goal

pub fetch-requires-clause-good : goal.fetch-requires-clause-good
fetch-requires-clause-good c = call_good c.args.self.now c.next_trouble.new.self _ c.next_trouble.ensures.counts c.requires.good

pub fetch-requires-clause-can : goal.fetch-requires-clause-can
fetch-requires-clause-can c = may_take c.args.self.now c.next_trouble.new.self _ c.args.k c.next_trouble.ensures.counts c.requires.can

pub returns-in-Some-Busy-clause-good : goal.returns-in-Some-Busy-clause-good
returns-in-Some-Busy-clause-good c = stop_good c.args.self.now c.next_trouble.new.self c.stop.new.self _ c.next_trouble.ensures.counts c.stop.ensures.stops c.requires.good

pub returns-in-Some-Busy-clause-takes : goal.returns-in-Some-Busy-clause-takes
returns-in-Some-Busy-clause-takes c = (stopped c.args.self.now c.next_trouble.new.self c.stop.new.self _ c.next_trouble.ensures.counts c.stop.ensures.stops c.stop.ensures.rises, unshared c.args.self.now)

pub returns-in_default-clause-good : goal.returns-in_default-clause-good
returns-in_default-clause-good c =
    let y = c.next_trouble.new.self in
    fetched_good y c.fetch.new.self c.fetch.ensures.moves.0 (call_good c.args.self.now y _ c.next_trouble.ensures.counts c.requires.good) c.fetch.ensures.moves.2 c.fetch.ensures.apart

pub returns-in_default-clause-takes : goal.returns-in_default-clause-takes
returns-in_default-clause-takes c =
    let (home, same, moves) = c.fetch.ensures.moves in
    (home, same, gets c.args.self.now c.next_trouble.new.self c.fetch.new.self _ home c.next_trouble.ensures.counts moves)

pub returns-in-Some-Busy-clause-planned : goal.returns-in-Some-Busy-clause-planned
returns-in-Some-Busy-clause-planned c =
    planned c.args.self.now.plan.items c.next_trouble.new.self c.stop.new.self c.stop.ensures.stops _ (sym c.next_trouble.ensures.planned ∙ (c.in-Some-Busy.is ∙ ap Some c.in-Some-Busy.field-0-is))
