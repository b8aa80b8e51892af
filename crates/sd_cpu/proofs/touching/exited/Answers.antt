use Rattle.sd_store.specs.Parts.{actor_part, chain_part, thread_part}
use Rattle.sd_cpu.proofs.HasLemmas.{also, own}
use Rattle.sd_cpu.proofs.touching.exited.Goals as goal

pub returns : goal.returns
returns c = λ n s shown.
    let x = c.args.x.now in
    let r = c.ready.result in
    also x r (actor_part c.args.c) _ (own x c.args.c c.requires.here)
    (also x r (chain_part c.args.l) _ c.in_ok-chain.ensures.0 (also x r (thread_part c.args.t) _ c.in_ok-thread.ensures.0 (c.ready.ensures n s shown)))
