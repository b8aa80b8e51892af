use Rattle.std.proofs.Common.{Some, sym, ap, ◌∙◌}
use Rattle.sd_hand_tests.proofs.CallLemmas.{call_good, gets, home_listed, may_take, may_take_home, planned, stop_good, stopped, unshared}
use Rattle.sd_hand_tests.proofs.HostileLemmas.{fetched_good}
use Rattle.sd_hand_tests.proofs.PlanLemmas.{moves_apart}
use Rattle.sd_hand_tests.proofs.turns.HostileWorldWorld.lock_thread.Goals as goal

pub fetch-requires-clause-good : goal.fetch-requires-clause-good
fetch-requires-clause-good c = call_good c.args.self.now c.next_trouble.new.self _ c.next_trouble.ensures.counts c.requires.good

pub fetch-requires-clause-can : goal.fetch-requires-clause-can
fetch-requires-clause-can c =
    may_take c.args.self.now c.next_trouble.new.self _ c.home_with-home.result c.next_trouble.ensures.counts (may_take_home c.args.self.now c.args.t c.home_with-home.result c.requires.good c.requires.can c.home_with-home.ensures)

pub returns-in-Some-Busy-clause-good : goal.returns-in-Some-Busy-clause-good
returns-in-Some-Busy-clause-good c = stop_good c.args.self.now c.next_trouble.new.self c.stop.new.self _ c.next_trouble.ensures.counts c.stop.ensures.stops c.requires.good

pub returns-in-Some-Busy-clause-locks : goal.returns-in-Some-Busy-clause-locks
returns-in-Some-Busy-clause-locks c =
    (stopped c.args.self.now c.next_trouble.new.self c.stop.new.self _ c.next_trouble.ensures.counts c.stop.ensures.stops c.stop.ensures.rises, unshared c.args.self.now, unshared c.args.self.now)

pub returns-in-Some-Moved-clause-good : goal.returns-in-Some-Moved-clause-good
returns-in-Some-Moved-clause-good c = stop_good c.args.self.now c.next_trouble.new.self c.stop-in-Some-Moved.new.self _ c.next_trouble.ensures.counts c.stop-in-Some-Moved.ensures.stops c.requires.good

pub returns-in-Some-Moved-clause-locks : goal.returns-in-Some-Moved-clause-locks
returns-in-Some-Moved-clause-locks c = (
  stopped c.args.self.now c.next_trouble.new.self c.stop-in-Some-Moved.new.self _ c.next_trouble.ensures.counts c.stop-in-Some-Moved.ensures.stops c.stop-in-Some-Moved.ensures.rises,
  moves_apart c.args.self.now.plan.items _ c.in-Some-Moved.from c.in-Some-Moved.to c.requires.good.possible (sym c.next_trouble.ensures.planned ∙ (c.in-Some-Moved.is ∙ ap Some c.in-Some-Moved.field-0-is)),
  unshared c.args.self.now,
)

pub returns-in_default-clause-good : goal.returns-in_default-clause-good
returns-in_default-clause-good c =
    let y = c.next_trouble.new.self in
    fetched_good y c.fetch.new.self c.fetch.ensures.moves.0 (call_good c.args.self.now y _ c.next_trouble.ensures.counts c.requires.good) c.fetch.ensures.moves.2 c.fetch.ensures.apart

pub returns-in_default-clause-locks : goal.returns-in_default-clause-locks
returns-in_default-clause-locks c =
    let x = c.args.self.now in
    let y = c.next_trouble.new.self in
    let (home, same, moves) = c.fetch.ensures.moves in (
      home,
      same,
      home_listed x y c.fetch.new.self _ c.args.t c.home_with-home.result home c.next_trouble.ensures.counts c.home_with-home.ensures same moves,
      gets x y c.fetch.new.self _ home c.next_trouble.ensures.counts moves,
      unshared x,
    )

pub returns-in-Some-Busy-clause-planned : goal.returns-in-Some-Busy-clause-planned
returns-in-Some-Busy-clause-planned c =
    planned c.args.self.now.plan.items c.next_trouble.new.self c.stop.new.self c.stop.ensures.stops _ (sym c.next_trouble.ensures.planned ∙ (c.in-Some-Busy.is ∙ ap Some c.in-Some-Busy.field-0-is))

pub returns-in-Some-Moved-clause-planned : goal.returns-in-Some-Moved-clause-planned
returns-in-Some-Moved-clause-planned c =
    planned c.args.self.now.plan.items c.next_trouble.new.self c.stop-in-Some-Moved.new.self c.stop-in-Some-Moved.ensures.stops _
    (sym c.next_trouble.ensures.planned ∙ (c.in-Some-Moved.is ∙ ap Some c.in-Some-Moved.field-0-is))
