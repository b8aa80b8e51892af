use Rattle.sd_world.proofs.WorldLemmas.{quiet_then, stays_then}
use Rattle.sd_hand_tests.proofs.HostileLemmas.{given_good, given_stays}
use Rattle.sd_hand_tests.proofs.turns.HostileWorldWorld.give_all.Goals as goal

pub giving-preserved : goal.giving-preserved
giving-preserved c =
    let (good, stays, quiet) = c.giving.invariant in
    let (home, moves) = c.give.ensures.moves in
    let (s, q) = given_stays c.giving.self c.give.new.self home moves in
    (given_good c.giving.self c.give.new.self home good moves c.give.ensures.apart, stays_then _ _ _ stays s, quiet_then _ _ _ quiet q)
