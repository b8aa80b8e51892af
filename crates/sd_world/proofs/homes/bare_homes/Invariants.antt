use Rattle.sd_world.specs.Homes.{AreBare}
use Rattle.sd_world.proofs.homes.bare_homes.Given as goal

abbrev pub invariant-loop-i : goal.invariant-loop-i
invariant-loop-i l = AreBare l.s l.i l.slots.items
