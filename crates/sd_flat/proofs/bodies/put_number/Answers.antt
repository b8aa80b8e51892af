use Rattle.std.proofs.Common.{length, ap, ◌∙◌, arith}
use Rattle.sd_types.specs.Willed.{with_number}
use Rattle.sd_types.proofs.WilledLemmas.{written}
use Rattle.sd_flat.proofs.bodies.put_number.Goals as goal

pub returns-then-l-deref : goal.returns-then-l-deref
returns-then-l-deref c = λ _.
    written c.args.l c.args.n c.loop-index.willed.items c.deref.result.now c.deref_mut.result.now c.loop-index.index _ (omega (arith, ap length c.loop-index.invariant.2))
    c.if-l-deref.true c.deref.ensures.0 c.deref_mut.ensures.value c.loop-index.invariant.0
    ∙ ap (with_number c.args.l c.args.n) c.loop-index.invariant.2
