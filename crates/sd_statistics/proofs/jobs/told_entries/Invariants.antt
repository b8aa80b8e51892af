use Rattle.std.proofs.Common.{◌≡◌, take}
use Rattle.sd_statistics.specs.Jobs.{told_entries}
use Rattle.sd_statistics.proofs.jobs.told_entries.Given as goal

abbrev pub invariant-loop-x : goal.invariant-loop-x
invariant-loop-x l = l.told.items ≡ told_entries l.t l.k (take l.x-index l.happenings)
