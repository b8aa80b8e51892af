use Rattle.sd_find.proofs.AuditedLemmas.{waits_law}
use Rattle.sd_find.proofs.laws.waits_are_audited.Goals as goal

pub returns : goal.returns
returns c = waits_law
