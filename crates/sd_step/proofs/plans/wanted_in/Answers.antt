use Rattle.std.proofs.Common.{ℕ, Ok, option_copied, unwrap_or}
use Rattle.sd_priocntl.proofs.WorkLemmas.{wanted_quantum}
use Rattle.sd_state.specs.States.{no_body}
use Rattle.sd_step.proofs.plans.wanted_in.Goals as goal

pub returns-clause-quantum : goal.returns-clause-quantum
returns-clause-quantum c = wanted_quantum {L = ℕ} c.args.work.now c.args.t.0 (Ok c.op_in.result) (unwrap_or (option_copied c.args.body) no_body, c.op_in.ensures)
