use Rattle.sd_entries.proofs.WordLemmas.{entry_is_line}
use Rattle.sd_entries.proofs.laws.words_stand_in_lines.Goals as goal

pub returns : goal.returns
returns c = entry_is_line
