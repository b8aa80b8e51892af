use Rattle.std.proofs.Common.{◌≡◌, take}
use Rattle.sd_types.specs.Scripts.{held_by}
use Rattle.sd_script.specs.Faults.{IsFreeBelow}
use Rattle.sd_script.proofs.checks.held_after_all.Given as goal

abbrev pub invariant-loop-i : goal.invariant-loop-i
invariant-loop-i l = (l.held.items ≡ held_by (take l.i l.ops)) × IsFreeBelow l.ops l.i
