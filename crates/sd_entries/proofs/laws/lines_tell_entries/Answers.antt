use Rattle.sd_entries.proofs.SpellingLemmas.{one_line}
use Rattle.sd_entries.proofs.laws.lines_tell_entries.Goals as goal

pub returns : goal.returns
returns c w e f = one_line w e f
