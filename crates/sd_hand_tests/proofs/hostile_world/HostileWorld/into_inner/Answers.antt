use Rattle.sd_hand_tests.proofs.HostileLemmas.{alone_stands}
use Rattle.std.proofs.Common.{refl}
use Rattle.sd_hand_tests.proofs.hostile_world.HostileWorld.into_inner.Goals as goal

pub returns-clause-stands : goal.returns-clause-stands
returns-clause-stands c = alone_stands c.args.self c.args.self.inner.work.now refl c.requires.good c.requires.empty
