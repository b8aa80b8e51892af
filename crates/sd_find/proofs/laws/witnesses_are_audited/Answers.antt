use Rattle.sd_find.proofs.AuditedLemmas.{audited_law}
use Rattle.sd_find.proofs.laws.witnesses_are_audited.Goals as goal

pub returns : goal.returns
returns c = audited_law
