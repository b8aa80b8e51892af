use Rattle.std.proofs.Common.{ℕ, ◌∷◌, []}
use Rattle.sd_lines.specs.Said.{word_of}
use Rattle.sd_tasks.proofs.Loops.{range_step}
use Rattle.sd_tasks.specs.Blocks.{wait_line}
use Rattle.sd_tasks.proofs.openings.put_waits.Goals as goal

pub loop-k-preserved : goal.loop-k-preserved
loop-k-preserved c = range_step (λ (k : ℕ). wait_line (word_of c.args.name.now) c.args.number ∷ []) _ _ _ c.loop-k.k c.in_ok-push_wait.ensures c.loop-k.invariant
