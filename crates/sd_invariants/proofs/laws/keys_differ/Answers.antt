use Rattle.sd_invariants.proofs.KeyLemmas.{keys_differ_law}
use Rattle.sd_invariants.proofs.laws.keys_differ.Goals as goal

pub returns : goal.returns
returns c = keys_differ_law
