use Rattle.std.proofs.Common.{◌≡◌, drop}
use Rattle.sd_turnstile.specs.Waiters.{find_among}
use Rattle.sd_turnstile.specs.Serving.{all_served}
use Rattle.sd_turnstile.proofs.chain.holder_of.Given as goal

abbrev pub invariant-loop-index : goal.invariant-loop-index
invariant-loop-index g l =
    find_among g.T.Ranked.id l.id (all_served (drop l.index l.locks)) ≡ find_among g.T.Ranked.id l.id (all_served l.locks)
