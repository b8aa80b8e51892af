use Rattle.sd_machine.specs.Threads.{runner}
use Rattle.sd_encoding.proofs.TellLemmas.{runner_same}
use Rattle.sd_encoding.proofs.ToldLemmas.{names}
use Rattle.sd_encoding.proofs.look.OrderedLook.runner.Goals as goal

pub returns-clause-value : goal.returns-clause-value
returns-clause-value c = let x = c.args.self.now.state in names c.args.self.now c.runner.result (λ s. runner s c.args.c.0) c.runner.ensures.value (λ n s h. runner_same x s h.same c.args.c.0)
