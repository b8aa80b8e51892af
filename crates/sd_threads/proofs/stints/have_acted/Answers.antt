use Rattle.std.proofs.Common.{sym, ap, ◌∙◌}
use Rattle.sd_threads.specs.declared.jobs.Job.{Job}
use Rattle.sd_threads.proofs.JobLemmas.{stopped_at}
use Rattle.sd_threads.proofs.stints.have_acted.Goals as goal

pub returns-in-Err-clause-stopped : goal.returns-in-Err-clause-stopped
returns-in-Err-clause-stopped c = stopped_at c.args.jobs.now c.loop-i.i _ c.in-Err.stop c.loop-i-test.true (ap (λ (j : Job). j.outcome) (sym c.index-jobs-i.is) ∙ c.in-Err.ensures.stopped)
