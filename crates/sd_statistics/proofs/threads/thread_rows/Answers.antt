use Rattle.std.proofs.Common.{◌++◌, sym, ap, ◌∙◌}
use Rattle.sd_basics.proofs.Ranges.{flat_range_more}
use Rattle.sd_statistics.specs.Threads.{thread_part}
use Rattle.sd_statistics.proofs.threads.thread_rows.Goals as goal

pub loop-t-preserved : goal.loop-t-preserved
loop-t-preserved c =
    let part = thread_part c.args.work.now c.args.history.now in
    c.in_ok-push_thread.ensures ∙ ap (λ rows. rows ++ part c.loop-t.t) c.loop-t.invariant ∙ sym (flat_range_more part c.loop-t.t)
