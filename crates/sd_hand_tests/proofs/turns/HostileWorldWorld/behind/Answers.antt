use Rattle.sd_world.proofs.WorldLemmas.{counts_same}
use Rattle.sd_hand_tests.specs.Hostile.{hostile_meaning}
use Rattle.sd_hand_tests.proofs.CallLemmas.{finds_behind}
use Rattle.sd_hand_tests.proofs.turns.HostileWorldWorld.behind.Goals as goal

pub returns-clause-reads : goal.returns-clause-reads
returns-clause-reads c = counts_same (hostile_meaning c.args.self.now)

pub returns-clause-finds : goal.returns-clause-finds
returns-clause-finds c = finds_behind c.args.self.now c.find_behind.result c.requires.good c.find_behind.ensures
