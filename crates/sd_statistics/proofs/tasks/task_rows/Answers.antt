use Rattle.std.proofs.Common.{◌++◌, sym, ap, ◌∙◌}
use Rattle.sd_basics.proofs.Ranges.{flat_range_more}
use Rattle.sd_statistics.specs.Tasks.{chan_part}
use Rattle.sd_statistics.proofs.tasks.task_rows.Goals as goal

pub loop-k-preserved : goal.loop-k-preserved
loop-k-preserved c =
    let part = chan_part c.args.work.now c.args.history.now c.args.end.now in
    c.in_ok-push_chan.ensures ∙ ap (λ rows. rows ++ part c.loop-k.k) c.loop-k.invariant ∙ sym (flat_range_more part c.loop-k.k)
