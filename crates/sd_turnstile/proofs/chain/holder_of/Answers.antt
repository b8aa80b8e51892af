use Rattle.std.proofs.Common.{◌<◌, length, arith}
use Rattle.sd_turnstile.proofs.ChainLemmas.{is_holder, renamed}
use Rattle.sd_turnstile.proofs.chain.holder_of.Goals as goal

pub returns-in-Some-side_of : goal.returns-in-Some-side_of
returns-in-Some-side_of g c =
    let n = c.requires in
    let inside : c.loop-index.index < length c.args.locks.now = omega arith in
    let there = renamed c.args.locks.now c.loop-index.index _ _ c.in-Some.is c.at.ensures in
    is_holder g.T.Ranked.id c.args.id c.args.locks.now c.loop-index.index c.in-Some.turnstile c.in-Some-side_of.side inside there c.loop-index.invariant
    c.in-Some-side_of.ensures.0 c.in-Some-side_of.ensures.1
