use Rattle.sd_state.specs.States.{cpu_of}
use Rattle.sd_encoding.proofs.TellLemmas.{count_same}
use Rattle.sd_encoding.proofs.ToldLemmas.{tells}
use Rattle.sd_encoding.proofs.look.OrderedLook.ticks.Goals as goal

pub returns-clause-value : goal.returns-clause-value
returns-clause-value c = let x = c.args.self.now.state in tells c.args.self.now c.ticks.result (λ s. (cpu_of s c.args.c.0).count) c.ticks.ensures.value (λ n s h. count_same x s h.same c.args.c.0)
