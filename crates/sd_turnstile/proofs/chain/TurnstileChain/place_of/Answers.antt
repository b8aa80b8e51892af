use Rattle.std.proofs.Common.{None, get_or}
use Rattle.std.proofs.lemmas.Option.{slice_get-get_or}
use Rattle.sd_turnstile.proofs.ChainLemmas.{waits_there}
use Rattle.sd_turnstile.proofs.chain.TurnstileChain.place_of.Goals as goal

pub returns-in-Some : goal.returns-in-Some
returns-in-Some g c =
    let holds = c.in-Some.ensures in
    let ss = c.self.inside.locks in
    waits_there g.T.Ranked.id c.args.id ss c.in-Some.index c.in-Some.side holds c.self.inside.chain c.args.self.now c.self.view_is c.self.invariant.0 c.self.invariant.1
    (get_or ss c.in-Some.index None) (slice_get-get_or ss c.in-Some.index None holds.0)
