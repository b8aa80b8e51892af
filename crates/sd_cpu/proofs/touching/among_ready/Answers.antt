use Rattle.sd_store.specs.Parts.{thread_part}
use Rattle.sd_cpu.proofs.HasLemmas.{also}
use Rattle.sd_cpu.proofs.touching.among_ready.Goals as goal

pub returns : goal.returns
returns c = λ n s shown. also c.args.x.now c.ready.result (thread_part c.args.t) _ c.in_ok-thread.ensures.0 (c.ready.ensures n s shown)
