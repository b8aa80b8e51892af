use Rattle.sd_search.specs.Graphs.{packed}
use Rattle.sd_extremes.proofs.MarkLemmas.{look_first, look_last}
use Rattle.sd_extremes.proofs.scanning.look_at.Goals as goal

pub loop-c-init : goal.loop-c-init
loop-c-init c = look_first c.args.work.now (packed c.args.graph.now) c.args.thread c.args.i c.args.so_far c.requires.spans

pub returns : goal.returns
returns c = look_last c.args.work.now (packed c.args.graph.now) c.args.thread c.args.i c.loop-c.c c.loop-c.span c.loop-c-test.false c.loop-c.invariant
