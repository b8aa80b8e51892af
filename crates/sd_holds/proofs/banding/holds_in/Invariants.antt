use Rattle.std.proofs.Common.{◌≡◌, take}
use Rattle.sd_holds.specs.Bands.{holds_in}
use Rattle.sd_holds.proofs.banding.holds_in.Given as goal

abbrev pub invariant-loop-x : goal.invariant-loop-x
invariant-loop-x l = l.found.items ≡ holds_in l.t l.from l.to (take l.x-index l.holds)
