use Rattle.sd_priocntl.proofs.WorkLemmas.{wanted_quantum}
use Rattle.sd_priocntl.proofs.priocntl.wanted_op.Goals as goal

pub returns-clause-quantum : goal.returns-clause-quantum
returns-clause-quantum g c = wanted_quantum c.args.work.now c.args.t.0 c.op_of.result c.op_of.ensures.own
