use Rattle.sd_layout.proofs.RowLemmas.{acting_first}
use Rattle.sd_layout.proofs.laws.acting_threads_come_first.Goals as goal

pub returns : goal.returns
returns c = acting_first
