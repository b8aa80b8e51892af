use Rattle.std.proofs.Common.{◌<◌, length}
use Rattle.sd_rules.specs.Orders.{IsBestByHintsAt}
use Rattle.sd_rules.proofs.choices.least_busy.Given as goal

abbrev pub invariant-loop-i : goal.invariant-loop-i
invariant-loop-i l = (l.best < length l.cpus) × IsBestByHintsAt l.cpus l.hints l.last l.i l.best
