use Rattle.sd_search.proofs.SpelledLemmas.{spelled_law}
use Rattle.sd_search.proofs.laws.turns_spell_a_run.Goals as goal

pub returns : goal.returns
returns c = spelled_law
