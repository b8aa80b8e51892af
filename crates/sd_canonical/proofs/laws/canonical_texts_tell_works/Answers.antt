use Rattle.sd_canonical.proofs.WorkLemmas.{one-spelling}
use Rattle.sd_canonical.proofs.laws.canonical_texts_tell_works.Goals as goal

pub returns : goal.returns
returns c = one-spelling
