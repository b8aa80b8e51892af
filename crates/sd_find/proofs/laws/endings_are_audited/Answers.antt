use Rattle.sd_find.proofs.AuditedLemmas.{endings_law}
use Rattle.sd_find.proofs.laws.endings_are_audited.Goals as goal

pub returns : goal.returns
returns c = endings_law
