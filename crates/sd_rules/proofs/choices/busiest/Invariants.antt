use Rattle.std.proofs.Common.{◌<◌, length}
use Rattle.sd_rules.specs.Orders.{IsBusiestAt}
use Rattle.sd_rules.proofs.choices.busiest.Given as goal

abbrev pub invariant-loop-i : goal.invariant-loop-i
invariant-loop-i l = (l.best < length l.cpus) × IsBusiestAt l.cpus l.hints l.i l.best
