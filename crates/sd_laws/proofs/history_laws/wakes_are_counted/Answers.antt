use Rattle.sd_laws.proofs.Runnable.{counted_law}
use Rattle.sd_laws.proofs.history_laws.wakes_are_counted.Goals as goal

pub returns : goal.returns
returns c = counted_law
