use Rattle.sd_machine.specs.Threads.{priority_of, runner}
use Rattle.sd_encoding.proofs.PutLemmas.{runs_same}
use Rattle.sd_encoding.proofs.ToldLemmas.{tells}
use Rattle.sd_encoding.proofs.look.OrderedLook.running_priority.Goals as goal

pub returns-clause-value : goal.returns-clause-value
returns-clause-value c = let x = c.args.self.now.state in tells c.args.self.now c.running_priority.result (λ s. priority_of s (runner s c.args.c.0)) c.running_priority.ensures.value (λ n s h. runs_same n n x s h c.args.c.0)
