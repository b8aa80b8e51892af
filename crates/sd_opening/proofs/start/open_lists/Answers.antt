use Rattle.std.proofs.Common.{◌≡◌, arith}
use Rattle.std.proofs.lemmas.List.FromFn.{map-range_with_len_more}
use Rattle.sd_state.specs.Opening.{open_list}
use Rattle.sd_opening.proofs.start.open_lists.Goals as goal

pub loop-p-preserved : goal.loop-p-preserved
loop-p-preserved c =
    let more = map-range_with_len_more (open_list c.args.work.now) 0 c.loop-p.p c.loop-p.p (omega arith) in
    let pushed = c.in_ok-push.ensures.items in
    let one : c.cpus_of_set.result ≡ open_list c.args.work.now c.loop-p.p = λ i. record { items = c.cpus_of_set.ensures i } in
    cc
