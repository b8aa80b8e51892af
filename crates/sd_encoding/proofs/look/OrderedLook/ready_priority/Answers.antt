use Rattle.sd_machine.specs.Threads.{best_ready, priority_of}
use Rattle.sd_encoding.proofs.PutLemmas.{ready_same}
use Rattle.sd_encoding.proofs.ToldLemmas.{tells}
use Rattle.sd_encoding.proofs.look.OrderedLook.ready_priority.Goals as goal

pub returns-clause-value : goal.returns-clause-value
returns-clause-value c = let x = c.args.self.now.state in tells c.args.self.now c.ready_priority.result (λ s. priority_of s (best_ready s c.args.c.0)) c.ready_priority.ensures.value (λ n s h. ready_same n n x s h c.args.c.0)
