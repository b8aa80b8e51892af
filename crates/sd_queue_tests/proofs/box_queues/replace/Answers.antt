use Rattle.std.proofs.Common.{refl}
use Rattle.sd_boxq.proofs.InOrder.{found_alike}
use Rattle.sd_queue_tests.proofs.box_queues.replace.Goals as goal

-- the items of this type have one rank and key
pub replace-requires : goal.replace-requires
replace-requires c = record { alike = found_alike _ _ _ _ c.in_ok-item.item c.args.queue.now c.in_ok-item.ensures (λ x. (refl, refl)) }
