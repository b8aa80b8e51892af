use Rattle.std.proofs.Common.{◌≡◌, ◌++◌, take}
use Rattle.std.specs.List.{flat_map}
use Rattle.sd_report.specs.JobTables.{name_behind}
use Rattle.sd_report.proofs.job_tables.push_more.Given as goal

abbrev pub invariant-loop-t : goal.invariant-loop-t
invariant-loop-t l = l.text.items ≡ l.initial.text.items ++ flat_map (name_behind l.work) (take l.t-index l.threads)
