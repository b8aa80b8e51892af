use Rattle.sd_store.specs.Parts.{thread_part}
use Rattle.sd_cpu.proofs.HasLemmas.{also}
use Rattle.sd_cpu.proofs.touching.pbound.Goals as goal

pub returns : goal.returns
returns c = λ n s shown. also c.args.x.now c.bind.result (thread_part c.args.t) _ c.in_ok-thread.ensures.0 (c.bind.ensures n s shown)
