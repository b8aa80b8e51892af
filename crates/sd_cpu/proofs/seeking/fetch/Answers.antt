use Rattle.std.proofs.Common.{sym, subst}
use Rattle.sd_cpu.specs.Seeking.{CanFetch, Fetches}
use Rattle.sd_cpu.proofs.seeking.fetch.Goals as goal

pub take_home-requires-clause-can : goal.take_home-requires-clause-can
take_home-requires-clause-can g c = (subst (CanFetch _) c.in-Home.is c.requires.can).0

pub take_home-requires-clause-few : goal.take_home-requires-clause-few
take_home-requires-clause-few g c = (subst (CanFetch _) c.in-Home.is c.requires.can).1

pub take_thread-requires-clause-can : goal.take_thread-requires-clause-can
take_thread-requires-clause-can g c = (subst (CanFetch _) c.in-Thread.is c.requires.can).0

pub take_thread-requires-clause-few : goal.take_thread-requires-clause-few
take_thread-requires-clause-few g c = (subst (CanFetch _) c.in-Thread.is c.requires.can).1

pub unreachable-requires : goal.unreachable-requires
unreachable-requires g c = subst (CanFetch _) c.in-Actor.is c.requires.can

pub returns-in-Home-clause-fetches : goal.returns-in-Home-clause-fetches
returns-in-Home-clause-fetches g c = subst (λ p. Fetches (g.W.World.meaning c.args.world.now) (g.W.World.meaning c.take_home.new.world) p c.take_home.result) (sym c.in-Home.is) c.take_home.ensures.fetches

pub returns-in-Thread-clause-fetches : goal.returns-in-Thread-clause-fetches
returns-in-Thread-clause-fetches g c = subst (λ p. Fetches (g.W.World.meaning c.args.world.now) (g.W.World.meaning c.take_thread.new.world) p c.take_thread.result) (sym c.in-Thread.is) c.take_thread.ensures.fetches
