use Rattle.std.proofs.Common.{subst}
use Rattle.sd_sleepq.specs.Sleepers.{AreApart}
use Rattle.sd_sleepq.proofs.Ordered.{are_apart}
use Rattle.sd_sleepq.proofs.chain.SleepChain.channels_are_apart.Goals as goal

pub returns : goal.returns
returns g c = subst AreApart c.self.view_is (are_apart (record { chain = c.self.inside.chain; queues = c.self.inside.queues }) c.self.invariant.1)
