use Rattle.sd_machine.specs.Locking.{others_waiting}
use Rattle.sd_encoding.proofs.TellLemmas.{others_same}
use Rattle.sd_encoding.proofs.ToldLemmas.{tells}
use Rattle.sd_encoding.proofs.look.OrderedLook.others_waiting.Goals as goal

pub returns-clause-value : goal.returns-clause-value
returns-clause-value c = let x = c.args.self.now.state in tells c.args.self.now c.others_waiting.result (λ s. others_waiting s c.args.l c.args.u.0) c.others_waiting.ensures.value (λ n s h. others_same x s h.same c.args.l c.args.u.0)
