use Rattle.sd_program.proofs.JournalLemmas.{one_journal}
use Rattle.sd_program.proofs.journal_laws.journals_tell_entries.Goals as goal

pub returns : goal.returns
returns c = one_journal
