use Rattle.sd_invariants.proofs.Counts.{rise_law}
use Rattle.sd_invariants.proofs.tick_laws.counts_rise_by_ticks.Goals as goal

pub returns : goal.returns
returns c = rise_law
