use Rattle.sd_stretches.proofs.SpinLemmas.{pieces_fill}
use Rattle.sd_stretches.proofs.laws.pieces_fill_stretches.Goals as goal

pub returns : goal.returns
returns c = pieces_fill
