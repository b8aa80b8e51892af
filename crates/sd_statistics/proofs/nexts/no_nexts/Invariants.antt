use Rattle.std.proofs.Common.{None}
use Rattle.sd_statistics.specs.Nexts.{AreNexts}
use Rattle.sd_statistics.proofs.nexts.no_nexts.Given as goal

abbrev pub invariant-loop : goal.invariant-loop
invariant-loop l = AreNexts (λ t. None) l.nexts.items
