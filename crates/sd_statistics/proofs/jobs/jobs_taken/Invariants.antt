use Rattle.std.proofs.Common.{◌≡◌, ◌+◌, ◌≤◌, ◌++◌, length, None}
use Rattle.sd_statistics.specs.Jobs.{jobs_from}
use Rattle.sd_statistics.proofs.jobs.jobs_taken.Given as goal

abbrev pub invariant-loop-x : goal.invariant-loop-x
invariant-loop-x l = record {
  found : l.found.items ++ jobs_from l.is_over l.t l.count l.units l.taken l.current l.left ≡ jobs_from l.is_over l.t l.count l.units 0 None l.told;
  few : l.taken + length l.left ≤ length l.told;
}

abbrev pub decreases-loop-x : goal.decreases-loop-x
decreases-loop-x l = length l.left
