use Rattle.sd_answers.proofs.WordLemmas.{no_journal_line}
use Rattle.sd_answers.proofs.laws.accepted_texts_have_no_journal.Goals as goal

pub returns : goal.returns
returns c = no_journal_line
