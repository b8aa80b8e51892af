use Rattle.std.proofs.Common.{ℕ, Some, sym, ap, ◌∙◌}
use Rattle.sd_stretches.proofs.RowLemmas.{first_passes}
use Rattle.sd_deadlines.specs.JobLines.{is_start, tick_before}
use Rattle.sd_deadlines.proofs.job_lines.start.Goals as goal

pub returns-then-is_start : goal.returns-then-is_start
returns-then-is_start c =
    ap (λ (n : ℕ). Some n) c.saturating_sub.ensures
    ∙ sym (ap tick_before (first_passes (is_start c.args.t c.args.job.now) c.args.told.now c.loop-x.x-index _ c.loop-x-test.true c.loop-x.invariant
    (sym c.is_start.ensures ∙ c.if-is_start.true)))
