use Rattle.sd_laws.proofs.Sleepers.{sleepers_law}
use Rattle.sd_laws.proofs.history_laws.sleepers_sleep_until_woken.Goals as goal

pub returns : goal.returns
returns c = sleepers_law
