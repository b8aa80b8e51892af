use Rattle.sd_invariants.proofs.Counts.{ticks_law}
use Rattle.sd_invariants.proofs.tick_laws.counts_are_ticks.Goals as goal

pub returns : goal.returns
returns c = ticks_law
