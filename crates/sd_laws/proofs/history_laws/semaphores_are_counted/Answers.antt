use Rattle.sd_laws.proofs.Counts.{counts_law}
use Rattle.sd_laws.proofs.history_laws.semaphores_are_counted.Goals as goal

pub returns : goal.returns
returns c = counts_law
