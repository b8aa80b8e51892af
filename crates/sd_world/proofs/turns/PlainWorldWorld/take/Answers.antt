use Rattle.sd_world.proofs.WorldLemmas.{takes}
use Rattle.sd_world.proofs.turns.PlainWorldWorld.take.Goals as goal

pub returns-clause-takes : goal.returns-clause-takes
returns-clause-takes c = takes c.args.self.now c.args.k c.requires.good c.requires.can.there
