use Rattle.sd_machine.specs.Threads.{first_due}
use Rattle.sd_encoding.proofs.TellLemmas.{first_due_same}
use Rattle.sd_encoding.proofs.ToldLemmas.{names}
use Rattle.sd_encoding.proofs.look.OrderedLook.first_due.Goals as goal

pub returns-clause-value : goal.returns-clause-value
returns-clause-value c = let x = c.args.self.now.state in names c.args.self.now c.first_due.result (λ s. first_due s c.args.c.0) c.first_due.ensures.value (λ n s h. first_due_same x s h.same c.args.c.0)
