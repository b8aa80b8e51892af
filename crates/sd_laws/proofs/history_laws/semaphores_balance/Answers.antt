use Rattle.sd_laws.proofs.Handed.{balance_law}
use Rattle.sd_laws.proofs.history_laws.semaphores_balance.Goals as goal

pub returns : goal.returns
returns c = balance_law
