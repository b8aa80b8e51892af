use Rattle.std.proofs.Common.{ℕ}
use Rattle.sd_tasks.proofs.Loops.{range_step}
use Rattle.sd_tasks.specs.WrittenKept.{lines_kept}
use Rattle.sd_tasks.proofs.written.put_again.Goals as goal

pub loop-k-preserved : goal.loop-k-preserved
loop-k-preserved c = range_step (λ (k : ℕ). lines_kept c.args.lines.now) _ _ _ c.loop-k.k c.in_ok-put_all.ensures c.loop-k.invariant
