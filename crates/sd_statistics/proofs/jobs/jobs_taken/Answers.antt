use Rattle.std.proofs.Common.{◌≡◌, ◌∷◌, length, ap, ◌∙◌, arith}
use Rattle.sd_statistics.specs.declared.jobs.Release.{Release}
use Rattle.sd_statistics.specs.Jobs.{job_after}
use Rattle.sd_statistics.proofs.JobLemmas.{job_more, jobs_end}
use Rattle.sd_statistics.proofs.jobs.jobs_taken.Goals as goal

pub loop-x-preserved : goal.loop-x-preserved
loop-x-preserved c =
    let now : c.loop-x.left.now ≡ c.in-Some.x.now ∷ c.in-Some.rest.now = (rw c.in-Some.is at c.split_first.ensures.cases).0 in
    let many = ap length now in
    let x = c.in-Some.x.now in
    record {
      found =
          job_more c.args.is_over c.args.t c.args.count c.args.units.now c.loop-x.taken _ c.loop-x.current _ x c.loop-x.left.now c.in-Some.rest.now c.loop-x.found.items _ _ now
          c.loop-x.invariant.found c.in_ok-push_job.ensures c.taken_after-taken.ensures.value
          (c.job_after-current.ensures ∙ ap (λ (next : Release). job_after c.args.t next c.loop-x.current x x.event) c.unit.ensures);
      few = omega (arith, many);
    }

pub returns : goal.returns
returns c =
    jobs_end c.args.is_over c.args.t c.args.count c.args.units.now c.loop-x.taken c.loop-x.current c.loop-x.left.now c.loop-x.found.items _ _
    c.in_default.ensures.cases c.loop-x.invariant.found c.in_ok-push_left.ensures
