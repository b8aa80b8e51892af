use Rattle.sd_encoding.proofs.EncodingLemmas.{differ}
use Rattle.sd_encoding.proofs.encoding.encodings_differ.Goals as goal

pub returns : goal.returns
returns c = differ
