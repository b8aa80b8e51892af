use Rattle.sd_program.proofs.HintLemmas.{run_journal}
use Rattle.sd_program.proofs.journal_laws.run_journals_are_journals.Goals as goal

pub returns : goal.returns
returns c = run_journal
