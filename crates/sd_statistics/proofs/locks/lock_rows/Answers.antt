use Rattle.std.proofs.Common.{◌++◌, sym, ap, ◌∙◌}
use Rattle.sd_basics.proofs.Ranges.{flat_range_more}
use Rattle.sd_statistics.specs.Locks.{lock_part}
use Rattle.sd_statistics.proofs.locks.lock_rows.Goals as goal

pub loop-l-preserved : goal.loop-l-preserved
loop-l-preserved c =
    let part = lock_part c.args.work.now c.args.history.now c.in_ok-all.all.items in
    c.in_ok-push_lock.ensures
    ∙ ap (λ all. c.loop-l.rows.items ++ lock_part c.args.work.now c.args.history.now all c.loop-l.l) c.deref.ensures.value
    ∙ ap (λ rows. rows ++ part c.loop-l.l) c.loop-l.invariant ∙ sym (flat_range_more part c.loop-l.l)
