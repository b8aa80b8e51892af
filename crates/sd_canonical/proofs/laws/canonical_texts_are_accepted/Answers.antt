use Rattle.sd_canonical.proofs.WorkLemmas.{canonical-accepted}
use Rattle.sd_canonical.proofs.laws.canonical_texts_are_accepted.Goals as goal

pub returns : goal.returns
returns c = canonical-accepted
