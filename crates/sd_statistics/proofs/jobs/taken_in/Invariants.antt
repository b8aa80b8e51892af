use Rattle.std.proofs.Common.{◌≡◌, ◌≤◌, take}
use Rattle.sd_statistics.specs.Jobs.{taken_in}
use Rattle.sd_statistics.proofs.jobs.taken_in.Given as goal

abbrev pub invariant-loop-x : goal.invariant-loop-x
invariant-loop-x l = record { counted : l.taken ≡ taken_in (take l.x-index l.told); few : l.taken ≤ l.x-index }
