use Rattle.sd_search.proofs.RunLemmas.{turns_law}
use Rattle.sd_search.proofs.laws.turns_are_the_same.Goals as goal

pub returns : goal.returns
returns c = turns_law
