use Rattle.std.specs.Prelude.{[]}
use Rattle.sd_stretches.specs.Parted.{AreRows}
use Rattle.sd_stretches.proofs.by_thread.no_rows.Given as goal

abbrev pub invariant-loop : goal.invariant-loop
invariant-loop g l = AreRows (λ t. []) l.rows.items
