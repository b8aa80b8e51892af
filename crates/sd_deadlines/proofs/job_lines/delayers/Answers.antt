use Rattle.std.proofs.Common.{◌≡◌, ◌∷◌}
use Rattle.sd_deadlines.specs.JobLines.{delayers}
use Rattle.sd_deadlines.proofs.DelayerLemmas.{delayers_all, delayers_more}
use Rattle.sd_deadlines.proofs.job_lines.delayers.Goals as goal

pub loop-d-preserved : goal.loop-d-preserved
loop-d-preserved c =
    let now : c.loop-d.left.now ≡ c.in-Some.d.now ∷ c.in-Some.rest.now = (rw c.in-Some.is at c.split_first.ensures.cases).0 in
    delayers_more c.args.job.now c.loop-d.seen.items _ _ c.in-Some.d.now c.loop-d.left.now c.in-Some.rest.now now c.loop-d.invariant c.in_ok-add_delay.ensures

pub returns : goal.returns
unfolding delayers
returns c = delayers_all c.args.job.now c.loop-d.seen.items _ c.loop-d.left.now c.in_default.ensures.cases c.loop-d.invariant
