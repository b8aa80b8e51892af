use Rattle.sd_machine.specs.Threads.{best_waiter}
use Rattle.sd_encoding.proofs.TellLemmas.{best_waiter_same}
use Rattle.sd_encoding.proofs.ToldLemmas.{names}
use Rattle.sd_encoding.proofs.look.OrderedLook.best_waiter.Goals as goal

pub returns-clause-value : goal.returns-clause-value
returns-clause-value c = let x = c.args.self.now.state in names c.args.self.now c.best_waiter.result (λ s. best_waiter s c.args.l.0 c.args.side) c.best_waiter.ensures.value (λ n s h. best_waiter_same x s h.same c.args.l.0 c.args.side)
