use Rattle.sd_shared_table.specs.Seats.{HasWritten, work_of}
use Rattle.sd_shared_table.proofs.PublishingLemmas as P
use Rattle.sd_shared_table.proofs.shared.Shared.publish.Goals as goal

wrote : (c : goal.After-publish_count) → HasWritten c.publish_mover.new.seat c.publish_count.new.seat
wrote c = P.written_then (work_of c.args.self.now) c.publish_mover.new.seat c.publish_hints.new.seat c.publish_count.new.seat c.publish_hints.ensures.written c.publish_count.ensures.written

pub returns-clause-publishes : goal.returns-clause-publishes
returns-clause-publishes c =
    let w = work_of c.args.self.now in
    P.published_still w c.args.seat.now c.publish_mover.new.seat c.publish_count.new.seat c.publish_mover.ensures.publishes (wrote c)

pub returns-clause-shows : goal.returns-clause-shows
returns-clause-shows c =
    let w = work_of c.args.self.now in
    let s = c.publish_hints.new.seat in
    let s' = c.publish_count.new.seat in
    let is = c.publish_count.ensures.written in
    record { hints = λ k held. P.hints_still w s s' k is (c.publish_hints.ensures.shows k (P.held_before w s s' k is held)); count = c.publish_count.ensures.shows }
