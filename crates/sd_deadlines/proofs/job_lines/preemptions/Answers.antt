use Rattle.std.proofs.Common.{◌≡◌, ◌∷◌, refl}
use Rattle.sd_stretches.proofs.RowLemmas.{found_all, found_more}
use Rattle.sd_deadlines.specs.JobLines.{preemption, preemptions}
use Rattle.sd_deadlines.proofs.job_lines.preemptions.Goals as goal

pub loop-x-preserved : goal.loop-x-preserved
unfolding preemptions
loop-x-preserved c =
    let now : c.loop-x.left.now ≡ c.in-Some.x.now ∷ c.in-Some.rest.now = (rw c.in-Some.is at c.split_first.ensures.cases).0 in
    let x = c.in-Some.x.now in
    found_more (preemptions c.args.t) c.loop-x.left.now c.in-Some.rest.now x (preemption c.args.t x c.in-Some.rest.now) c.loop-x.found.items _ _ refl now
    c.loop-x.invariant c.in_ok-push_preemption.ensures

pub returns : goal.returns
unfolding preemptions
returns c = found_all (preemptions c.args.t) c.loop-x.left.now c.loop-x.found.items _ refl c.in_default.ensures.cases c.loop-x.invariant
