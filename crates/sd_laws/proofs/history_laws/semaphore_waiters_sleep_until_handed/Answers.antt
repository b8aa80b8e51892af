use Rattle.sd_laws.proofs.Handed.{handed_law}
use Rattle.sd_laws.proofs.history_laws.semaphore_waiters_sleep_until_handed.Goals as goal

pub returns : goal.returns
returns c = handed_law
