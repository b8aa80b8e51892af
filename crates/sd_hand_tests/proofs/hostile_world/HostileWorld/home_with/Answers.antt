use Rattle.sd_hand_tests.proofs.HostileLemmas.{not_nowhere, stands_home}
use Rattle.sd_hand_tests.proofs.hostile_world.HostileWorld.home_with.Goals as goal

pub unreachable-requires : goal.unreachable-requires
unreachable-requires c = not_nowhere c.args.self.now c.args.t c.requires.good c.requires.can c.in-Err.ensures.1

pub returns : goal.returns
returns c = stands_home c.args.self.now c.args.t c.in-Ok.at c.home_at.result c.requires.good c.home_at.ensures c.in-Ok.ensures
