use Rattle.sd_store.specs.Parts.{actor_part, chain_part}
use Rattle.sd_cpu.proofs.HasLemmas.{also, own}
use Rattle.sd_cpu.proofs.touching.willed.Goals as goal

pub returns : goal.returns
returns c = λ n s shown.
    let x = c.args.x.now in
    let r = c.reordered.result in
    also x r (actor_part c.args.c) _ (own x c.args.c c.requires.here) (also x r (chain_part c.args.l) _ c.in_ok-chain.ensures.0 (c.reordered.ensures n s shown))
