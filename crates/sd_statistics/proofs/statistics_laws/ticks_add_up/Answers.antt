use Rattle.sd_statistics.proofs.TickLemmas.{ticks_add}
use Rattle.sd_statistics.proofs.statistics_laws.ticks_add_up.Goals as goal

pub returns : goal.returns
returns c = ticks_add
