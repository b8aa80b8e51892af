use Rattle.sd_machine.specs.Threads.{count_of}
use Rattle.sd_encoding.proofs.TellLemmas.{count_of_same}
use Rattle.sd_encoding.proofs.ToldLemmas.{tells}
use Rattle.sd_encoding.proofs.look.OrderedLook.tokens.Goals as goal

pub returns-clause-value : goal.returns-clause-value
returns-clause-value c = let x = c.args.self.now.state in tells c.args.self.now c.tokens.result (λ s. count_of s c.args.k.0) c.tokens.ensures.value (λ n s h. count_of_same x s h.same c.args.k.0)
