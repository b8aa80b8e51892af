use Rattle.sd_program.proofs.EntryLemmas.{spelled}
use Rattle.sd_program.proofs.journal_laws.entries_are_spelled.Goals as goal

pub returns : goal.returns
returns c = spelled
