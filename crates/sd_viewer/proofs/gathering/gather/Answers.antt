use Rattle.sd_audit.proofs.ReadLemmas.{nothing_read}
use Rattle.sd_viewer.proofs.gathering.gather.Goals as goal

pub returns-in_default-clause-fault : goal.returns-in_default-clause-fault
returns-in_default-clause-fault c = nothing_read c.args.work.now c.args.text.now

pub returns-in_default-begin-clause-fault : goal.returns-in_default-begin-clause-fault
returns-in_default-begin-clause-fault c = nothing_read c.args.work.now c.args.text.now
