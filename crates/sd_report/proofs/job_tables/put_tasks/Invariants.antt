use Rattle.std.proofs.Common.{◌≡◌, ◌++◌, take}
use Rattle.std.specs.List.{flat_map}
use Rattle.sd_report.specs.JobTables.{task_jobs_text}
use Rattle.sd_report.proofs.job_tables.put_tasks.Given as goal

abbrev pub invariant-loop-x : goal.invariant-loop-x
invariant-loop-x l = l.out.items ≡ l.initial.out.items ++ flat_map (task_jobs_text l.work l.history l.end) (take l.x-index l.tasks)
