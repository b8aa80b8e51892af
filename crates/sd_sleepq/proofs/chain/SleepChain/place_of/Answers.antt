use Rattle.std.proofs.Common.{◌+◌, ◌*◌, subst}
use Rattle.sd_sleepq.specs.Sleepers.{Sleepers, SleepsThere}
use Rattle.sd_sleepq.proofs.Ordered.{sleeps_there}
use Rattle.sd_sleepq.proofs.chain.SleepChain.place_of.Goals as goal

pub returns-in-Some : goal.returns-in-Some
returns-in-Some g c =
    let old : Sleepers g.row.T.Denot = record { chain = c.self.inside.chain; queues = c.self.inside.queues } in
    subst (λ s. SleepsThere g.T.Ranked.id c.args.id s (64 * c.in-Some.index + c.self.inside.chain)) c.self.view_is
    (sleeps_there old c.self.invariant.1 g.T.Ranked.id c.args.id c.in-Some.index c.self.invariant.0 c.in-Some.ensures)
