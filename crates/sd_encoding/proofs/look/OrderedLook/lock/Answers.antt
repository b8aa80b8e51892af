use Rattle.sd_machine.specs.Threads.{lock_of}
use Rattle.sd_encoding.proofs.TellLemmas.{lock_same}
use Rattle.sd_encoding.proofs.ToldLemmas.{tells}
use Rattle.sd_encoding.proofs.look.OrderedLook.lock.Goals as goal

pub returns-clause-value : goal.returns-clause-value
returns-clause-value c = let x = c.args.self.now.state in tells c.args.self.now c.lock.result (λ s. lock_of s c.args.l.0) c.lock.ensures.value (λ n s h. lock_same x s h.same c.args.l.0)
