use Rattle.sd_hand_tests.proofs.CallLemmas.{roomy_good, roomy_reserves}
use Rattle.sd_hand_tests.proofs.turns.HostileWorldWorld.reserve.Goals as goal

pub returns-clause-good : goal.returns-clause-good
returns-clause-good c = roomy_good c.args.self.now c.next_trouble.new.self _ c.next_trouble.ensures.counts c.reserve_entry.new.entries c.reserve_entry.ensures.same c.requires.good

pub returns-clause-same : goal.returns-clause-same
returns-clause-same c = roomy_reserves c.args.self.now c.next_trouble.new.self _ c.next_trouble.ensures.counts c.reserve_entry.new.entries c.reserve_entry.ensures.same
