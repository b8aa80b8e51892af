use Rattle.std.proofs.Common.{arith}
use Rattle.std.proofs.lemmas.List.FromFn.{map-range_with_len_more}
use Rattle.sd_state.specs.Opening.{first_cpu_state}
use Rattle.sd_opening.proofs.start.first_cpus.Goals as goal

pub loop-c-preserved : goal.loop-c-preserved
loop-c-preserved c =
    let more = map-range_with_len_more (first_cpu_state c.args.work.now) 0 c.loop-c.c c.loop-c.c (omega arith) in
    let pushed = c.in_ok-push.ensures.items in
    cc
