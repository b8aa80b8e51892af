use Rattle.sd_encoding.proofs.EncodingLemmas.{read_again}
use Rattle.sd_encoding.proofs.encoding.states_are_read_again.Goals as goal

pub returns : goal.returns
returns c = read_again
