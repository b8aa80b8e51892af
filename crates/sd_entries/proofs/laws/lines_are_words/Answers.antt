use Rattle.sd_entries.proofs.SpellLemmas.{entry_spelled}
use Rattle.sd_entries.proofs.laws.lines_are_words.Goals as goal

pub returns : goal.returns
returns c w e = entry_spelled w e
