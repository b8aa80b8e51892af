use Rattle.std.proofs.Common.{◌≡◌, ◌≤◌, length, take}
use Rattle.sd_types.specs.Willed.{without_number}
use Rattle.sd_types.proofs.inheritance.without_number.Given as goal

abbrev pub invariant-loop-number : goal.invariant-loop-number
invariant-loop-number l =
    (l.rest.items ≡ without_number l.l (take l.number-index l.number-items)) × (length l.rest.items ≤ l.number-index)
