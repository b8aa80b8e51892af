use Rattle.std.proofs.Common.{sym, ap}
use Rattle.sd_set_inputs.specs.ToldTasks.{tasks_by}
use Rattle.sd_set_inputs.proofs.SetLemmas.{plain_spells}
use Rattle.sd_set_inputs.proofs.spelling.read_spelled.Goals as goal

pub returns-in-Ok-clause-spelled : goal.returns-in-Ok-clause-spelled
returns-in-Ok-clause-spelled c = plain_spells c.args.bytes.now c.in-Ok.work c.in-Ok.ensures.ok

pub returns-in-Ok-clause-tasks : goal.returns-in-Ok-clause-tasks
returns-in-Ok-clause-tasks c = sym (ap (λ verdict. tasks_by verdict c.args.bytes.now) c.in-Ok.ensures.ok.accepted)
