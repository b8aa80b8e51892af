use Rattle.sd_stretches.proofs.RangeLemmas.{range_pushed}
use Rattle.sd_timeline.specs.Head.{inner_number}
use Rattle.sd_timeline.proofs.head.put_inner_numbers.Goals as goal

pub loop-k-preserved : goal.loop-k-preserved
loop-k-preserved c = range_pushed (inner_number c.args.layout.now c.args.tick) c.loop-k.k _ _ _ c.loop-k.invariant c.in_ok-put_inner_number.ensures
