use Rattle.sd_invariants.proofs.Counts.{close_law}
use Rattle.sd_invariants.proofs.tick_laws.counts_stay_close.Goals as goal

pub returns : goal.returns
returns c = close_law
