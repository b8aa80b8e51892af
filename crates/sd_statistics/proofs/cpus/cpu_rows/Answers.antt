use Rattle.std.proofs.Common.{◌++◌, sym, ap, ◌∙◌}
use Rattle.sd_basics.proofs.Ranges.{flat_range_more}
use Rattle.sd_statistics.specs.Cpus.{cpu_part}
use Rattle.sd_statistics.proofs.cpus.cpu_rows.Goals as goal

pub loop-c-preserved : goal.loop-c-preserved
loop-c-preserved c =
    let part = cpu_part c.args.history.now.happenings.items in
    c.in_ok-push_cpu.ensures ∙ ap (λ xs. c.loop-c.rows.items ++ cpu_part xs c.loop-c.c) c.deref.ensures.value
    ∙ ap (λ rows. rows ++ part c.loop-c.c) c.loop-c.invariant ∙ sym (flat_range_more part c.loop-c.c)
