use Rattle.sd_machine.specs.Threads.{best_ready}
use Rattle.sd_encoding.proofs.TellLemmas.{best_ready_same}
use Rattle.sd_encoding.proofs.ToldLemmas.{names}
use Rattle.sd_encoding.proofs.look.OrderedLook.best_ready.Goals as goal

pub returns-clause-value : goal.returns-clause-value
returns-clause-value c = let x = c.args.self.now.state in names c.args.self.now c.best_ready.result (λ s. best_ready s c.args.c.0) c.best_ready.ensures.value (λ n s h. best_ready_same x s h.same c.args.c.0)
