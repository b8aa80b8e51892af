use Rattle.sd_state.specs.States.{cpu_of}
use Rattle.sd_store.specs.Keyless.{task_of}
use Rattle.sd_encoding.proofs.TellLemmas.{task_same}
use Rattle.sd_encoding.proofs.ToldLemmas.{tells}
use Rattle.sd_encoding.proofs.look.OrderedLook.duty.Goals as goal

pub returns-clause-value : goal.returns-clause-value
returns-clause-value c = let x = c.args.self.now.state in tells c.args.self.now c.duty.result (λ s. task_of (cpu_of s c.args.c.0).duty) c.duty.ensures.value (λ n s h. task_same x s h.same c.args.c.0)
