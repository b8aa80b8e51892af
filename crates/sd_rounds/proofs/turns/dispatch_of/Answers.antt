use Rattle.sd_machine.specs.Threads.{best_ready}
use Rattle.sd_rounds.proofs.turns.dispatch_of.Goals as goal

pub returns-in-Ok : goal.returns-in-Ok
returns-in-Ok c = λ n s sh. c.dispatch_found.ensures s (best_ready s c.args.x.now.actor.cpu.0) (c.in-Ok.ensures.value n s sh)
