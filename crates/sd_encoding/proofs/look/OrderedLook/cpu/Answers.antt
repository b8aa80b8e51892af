use Rattle.sd_state.specs.States.{cpu_of}
use Rattle.sd_store.specs.Parts.{view_of}
use Rattle.sd_encoding.proofs.TellLemmas.{view_same}
use Rattle.sd_encoding.proofs.ToldLemmas.{tells}
use Rattle.sd_encoding.proofs.look.OrderedLook.cpu.Goals as goal

pub returns-clause-value : goal.returns-clause-value
returns-clause-value c = let x = c.args.self.now.state in tells c.args.self.now c.cpu.result (λ s. view_of (cpu_of s c.args.c.0)) c.cpu.ensures.value (λ n s h. view_same x s h.same c.args.c.0)
