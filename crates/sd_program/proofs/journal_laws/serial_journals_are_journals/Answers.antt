use Rattle.sd_program.proofs.HintLemmas.{serial_journal}
use Rattle.sd_program.proofs.journal_laws.serial_journals_are_journals.Goals as goal

pub returns : goal.returns
returns c = serial_journal
