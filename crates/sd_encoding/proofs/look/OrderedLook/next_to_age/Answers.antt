use Rattle.sd_machine.specs.Threads.{next_to_age}
use Rattle.sd_encoding.proofs.TellLemmas.{next_to_age_same}
use Rattle.sd_encoding.proofs.ToldLemmas.{names}
use Rattle.sd_encoding.proofs.look.OrderedLook.next_to_age.Goals as goal

pub returns-clause-value : goal.returns-clause-value
returns-clause-value c = let x = c.args.self.now.state in names c.args.self.now c.next_to_age.result (λ s. next_to_age s c.args.c.0 c.args.u.0) c.next_to_age.ensures.value (λ n s h. next_to_age_same x s h.same c.args.c.0 c.args.u.0)
