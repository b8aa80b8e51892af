use Rattle.sd_layout.proofs.RowLemmas.{all_own}
use Rattle.sd_layout.proofs.laws.rows_are_own.Goals as goal

pub returns : goal.returns
returns c = all_own
