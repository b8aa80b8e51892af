use Rattle.sd_world.specs.Plain.{plain_meaning}
use Rattle.sd_world.proofs.WorldLemmas.{counts_same, finds}
use Rattle.sd_world.proofs.turns.PlainWorldWorld.behind.Goals as goal

pub returns-clause-reads : goal.returns-clause-reads
returns-clause-reads c = counts_same (plain_meaning c.args.self.now)

pub returns-clause-finds : goal.returns-clause-finds
returns-clause-finds c = finds c.args.self.now c.find_behind.result c.requires.good c.find_behind.ensures
