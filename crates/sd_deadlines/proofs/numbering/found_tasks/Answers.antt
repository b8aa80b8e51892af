use Rattle.std.proofs.Common.{◌++◌, sym, ap, ◌∙◌}
use Rattle.sd_basics.proofs.Ranges.{flat_range_more}
use Rattle.sd_deadlines.specs.Numbering.{chan_tasks}
use Rattle.sd_deadlines.proofs.numbering.found_tasks.Goals as goal

pub loop-k-preserved : goal.loop-k-preserved
loop-k-preserved c =
    c.in_ok-push_chan.ensures ∙ ap (λ tasks. tasks ++ chan_tasks c.args.work.now c.loop-k.k) c.loop-k.invariant
    ∙ sym (flat_range_more (chan_tasks c.args.work.now) c.loop-k.k)
