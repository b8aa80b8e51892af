use Rattle.std.proofs.Common.{◌≡◌, take, map}
use Rattle.sd_stretches.specs.Sights.{sight_of}
use Rattle.sd_stretches.proofs.sights.sights_of.Given as goal

abbrev pub invariant-loop-x : goal.invariant-loop-x
invariant-loop-x l = l.sights.items ≡ map sight_of (take l.x-index l.threads)
