use Rattle.std.proofs.Common.{◌≡◌, ◌≤◌, length, map, take}
use Rattle.sd_machine.specs.Hints.{hint_shown}
use Rattle.sd_world.specs.Plain.{told}
use Rattle.sd_world.proofs.plain.PlainWorld.numbers.Given as goal

abbrev pub invariant-loop-d : goal.invariant-loop-d
invariant-loop-d l = (l.numbers.items ≡ map (hint_shown (told l.work l.self) l.which) (take l.d-index l.cpus)) × (length l.numbers.items ≤ l.d-index)
