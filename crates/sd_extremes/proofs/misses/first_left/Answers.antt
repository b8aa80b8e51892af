use Rattle.sd_search.specs.Graphs.{packed}
use Rattle.sd_search.proofs.FinalLemmas as F
use Rattle.sd_extremes.proofs.MissLemmas as M
use Rattle.sd_extremes.proofs.misses.first_left.Goals as goal

pub loop-i-init : goal.loop-i-init
loop-i-init c = M.none_first c.args.work.now (packed c.args.graph.now) c.args.thread c.args.finals.now

pub is_left-requires-clause-inside : goal.is_left-requires-clause-inside
is_left-requires-clause-inside c = F.inside_there c.args.work.now (packed c.args.graph.now) c.args.finals.now c.requires.finals c.loop-i.i-index c.loop-i-test.true

pub returns-then-branch : goal.returns-then-branch
returns-then-branch c =
    let e = F.ends_there c.args.work.now (packed c.args.graph.now) c.args.finals.now c.requires.finals c.loop-i.i-index c.loop-i-test.true in
    record { state = e.state; at = e.at; complete = e.complete; left = (c.in_ok-is_left.ensures e.state e.at).0 c.if-branch.true }

pub loop-i-preserved : goal.loop-i-preserved
loop-i-preserved c =
    M.none_next c.args.work.now (packed c.args.graph.now) c.args.thread c.args.finals.now c.loop-i.i-index c.in_ok-is_left.field-0 c.if-branch.false c.loop-i-test.true c.in_ok-is_left.ensures c.loop-i.invariant

pub returns : goal.returns
returns c = M.none_at_all c.args.work.now (packed c.args.graph.now) c.args.thread c.args.finals.now c.loop-i.i-index c.requires.finals c.loop-i-test.false c.loop-i.invariant
