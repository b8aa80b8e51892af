use Rattle.sd_invariants.proofs.KeyLemmas.{keys_within_law}
use Rattle.sd_invariants.proofs.laws.keys_within.Goals as goal

pub returns : goal.returns
returns c = keys_within_law
