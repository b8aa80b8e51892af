use Rattle.std.proofs.Common.{◌≡◌, ◌++◌, take}
use Rattle.std.specs.List.{flat_map}
use Rattle.sd_report.specs.JobTables.{job_line}
use Rattle.sd_report.proofs.job_tables.put_jobs.Given as goal

abbrev pub invariant-loop-job : goal.invariant-loop-job
invariant-loop-job l = l.out.items ≡ l.initial.out.items ++ flat_map (job_line l.work l.x l.told l.preempted l.blocked) (take l.job-index l.jobs)
