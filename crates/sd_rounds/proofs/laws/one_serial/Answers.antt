use Rattle.sd_rounds.proofs.SerialLemmas.{one_serial}
use Rattle.sd_rounds.proofs.laws.one_serial.Goals as goal

pub returns : goal.returns
returns c = one_serial
