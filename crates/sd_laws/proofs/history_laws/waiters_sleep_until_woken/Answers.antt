use Rattle.sd_laws.proofs.Sleepers.{waiters_law}
use Rattle.sd_laws.proofs.history_laws.waiters_sleep_until_woken.Goals as goal

pub returns : goal.returns
returns c = waiters_law
