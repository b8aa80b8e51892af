use Rattle.sd_machine.specs.Threads.{best_unbound}
use Rattle.sd_encoding.proofs.TellLemmas.{best_unbound_same}
use Rattle.sd_encoding.proofs.ToldLemmas.{names}
use Rattle.sd_encoding.proofs.look.OrderedLook.best_unbound.Goals as goal

pub returns-clause-value : goal.returns-clause-value
returns-clause-value c = let x = c.args.self.now.state in names c.args.self.now c.best_unbound.result (λ s. best_unbound s c.args.c.0) c.best_unbound.ensures.value (λ n s h. best_unbound_same x s h.same c.args.c.0)
