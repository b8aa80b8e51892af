use Rattle.std.proofs.Common.{◌≡◌, ◌≤◌, length, map, take}
use Rattle.sd_hand_tests.specs.Hostile.{hint_in}
use Rattle.sd_hand_tests.proofs.hostile_world.HostileWorld.numbers.Given as goal

abbrev pub invariant-loop-d : goal.invariant-loop-d
invariant-loop-d l = (l.numbers.items ≡ map (hint_in l.self l.which) (take l.d-index l.cpus)) × (length l.numbers.items ≤ l.d-index)
