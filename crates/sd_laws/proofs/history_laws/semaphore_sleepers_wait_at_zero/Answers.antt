use Rattle.sd_laws.proofs.Counts.{zeros_law}
use Rattle.sd_laws.proofs.history_laws.semaphore_sleepers_wait_at_zero.Goals as goal

pub returns : goal.returns
returns c = zeros_law
