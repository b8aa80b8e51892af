use Rattle.sd_machine.specs.Threads.{greatest_waiting}
use Rattle.sd_encoding.proofs.TellLemmas.{greatest_same}
use Rattle.sd_encoding.proofs.ToldLemmas.{tells}
use Rattle.sd_encoding.proofs.look.OrderedLook.greatest_waiting.Goals as goal

pub returns-clause-value : goal.returns-clause-value
returns-clause-value c = let x = c.args.self.now.state in tells c.args.self.now c.greatest_waiting.result (λ s. greatest_waiting c.args.l.0 s.threads) c.greatest_waiting.ensures.value (λ n s h. greatest_same x s h.same c.args.l.0)
