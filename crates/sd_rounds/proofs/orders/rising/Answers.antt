use Rattle.std.proofs.Common.{◌≡◌, ◌+◌, map, arith}
use Rattle.std.specs.List.{range_with_len}
use Rattle.std.proofs.lemmas.List.FromFn.{map-range_with_len_more}
use Rattle.sd_types.specs.Partitions.{cpu_of_number}
use Rattle.sd_rounds.proofs.orders.rising.Goals as goal

pub loop-c-preserved : goal.loop-c-preserved
loop-c-preserved c =
    let more = map-range_with_len_more cpu_of_number 0 c.loop-c.c c.loop-c.c (omega arith) in
    let pushed = c.push.ensures.items in
    let so_far = c.loop-c.invariant.0 in
    let items : c.push.new.self.items ≡ map cpu_of_number (range_with_len 0 (c.loop-c.c + 1)) = cc in
    let many = c.push.ensures.len in
    let before = c.loop-c.invariant.1 in
    (items, omega (arith, many, before))
