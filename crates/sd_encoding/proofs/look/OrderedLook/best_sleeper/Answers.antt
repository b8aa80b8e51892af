use Rattle.sd_machine.specs.Threads.{best_sleeper}
use Rattle.sd_encoding.proofs.TellLemmas.{best_sleeper_same}
use Rattle.sd_encoding.proofs.ToldLemmas.{names}
use Rattle.sd_encoding.proofs.look.OrderedLook.best_sleeper.Goals as goal

pub returns-clause-value : goal.returns-clause-value
returns-clause-value c = let x = c.args.self.now.state in names c.args.self.now c.best_sleeper.result (λ s. best_sleeper s c.args.k.0) c.best_sleeper.ensures.value (λ n s h. best_sleeper_same x s h.same c.args.k.0)
