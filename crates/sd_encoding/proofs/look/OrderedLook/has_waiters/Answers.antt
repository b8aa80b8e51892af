use Rattle.sd_machine.specs.Threads.{has_waiters}
use Rattle.sd_encoding.proofs.TellLemmas.{has_waiters_same}
use Rattle.sd_encoding.proofs.ToldLemmas.{tells}
use Rattle.sd_encoding.proofs.look.OrderedLook.has_waiters.Goals as goal

pub returns-clause-value : goal.returns-clause-value
returns-clause-value c = let x = c.args.self.now.state in tells c.args.self.now c.has_waiters.result (λ s. has_waiters s c.args.l.0) c.has_waiters.ensures.value (λ n s h. has_waiters_same x s h.same c.args.l.0)
