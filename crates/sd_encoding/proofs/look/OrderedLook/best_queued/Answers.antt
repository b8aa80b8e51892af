use Rattle.sd_machine.specs.Threads.{best_queued}
use Rattle.sd_encoding.proofs.TellLemmas.{best_queued_same}
use Rattle.sd_encoding.proofs.ToldLemmas.{names}
use Rattle.sd_encoding.proofs.look.OrderedLook.best_queued.Goals as goal

pub returns-clause-value : goal.returns-clause-value
returns-clause-value c = let x = c.args.self.now.state in names c.args.self.now c.best_queued.result (λ s. best_queued s c.args.c.0) c.best_queued.ensures.value (λ n s h. best_queued_same x s h.same c.args.c.0)
