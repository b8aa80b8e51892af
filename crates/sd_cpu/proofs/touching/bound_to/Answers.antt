use Rattle.sd_store.specs.Parts.{thread_part}
use Rattle.sd_cpu.proofs.HasLemmas.{no_lack}
use Rattle.sd_cpu.proofs.touching.bound_to.Goals as goal

pub unreachable-requires : goal.unreachable-requires
unreachable-requires c =
    let one = c.requires.shown in
    let lack = c.in-Err.ensures.lack in
    no_lack c.args.x.now c.in-Err.field-0 (thread_part c.args.u) (lack.0 one.number one.state one.shown) lack.1 c.requires.here

pub returns : goal.returns
returns c = λ n s shown. c.in-Ok.ensures.value n s shown
