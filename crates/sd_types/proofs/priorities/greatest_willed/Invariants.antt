use Rattle.std.proofs.Common.{◌≡◌, drop}
use Rattle.sd_types.specs.Priorities.{greatest_willed}
use Rattle.sd_types.proofs.priorities.greatest_willed.Given as goal

-- what is left raises the greatest so far to the greatest of all
abbrev pub invariant-loop-number : goal.invariant-loop-number
invariant-loop-number l = greatest_willed l.most (drop l.number-index l.willed) ≡ greatest_willed l.base l.willed
