use Rattle.sd_layout.proofs.FoldLemmas.{quiet_folds}
use Rattle.sd_layout.proofs.laws.folds_are_quiet.Goals as goal

pub returns : goal.returns
returns c = quiet_folds
