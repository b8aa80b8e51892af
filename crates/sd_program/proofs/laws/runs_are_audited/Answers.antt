use Rattle.sd_program.proofs.AuditedLemmas.{audited_law}
use Rattle.sd_program.proofs.laws.runs_are_audited.Goals as goal

pub returns : goal.returns
returns c = audited_law
