use Rattle.sd_state.specs.States.{cpu_of, thread_of}
use Rattle.sd_machine.specs.Walking.{is_back}
use Rattle.sd_encoding.proofs.SeekLemmas.{is_back_same}
use Rattle.sd_encoding.proofs.ToldLemmas.{tells}
use Rattle.sd_encoding.proofs.look.OrderedLook.is_back.Goals as goal

pub returns-clause-value : goal.returns-clause-value
returns-clause-value c = let x = c.args.self.now.state in tells c.args.self.now c.is_back.result (λ s. is_back (cpu_of s c.args.c.0).duty c.args.o (thread_of s c.args.o.0).place) c.is_back.ensures.value (λ n s h. is_back_same n n x s h c.args.c c.args.o)
