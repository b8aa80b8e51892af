use Rattle.std.proofs.Common.{rules, SFits, w64}
use Rattle.std.proofs.lemmas.Int.{to_z-of_z}
use Rattle.sd_hand.proofs.WithinLemmas.{place_relocated, run_relocated}
use Rattle.sd_hand.proofs.hand.Hand.relocate_within.Goals as goal

pub returns-in-Some : goal.returns-in-Some
returns-in-Some c =
    run_relocated c.args.t.0 c.in-Some.c c.args.from c.args.step.now c.args.to c.args.self.now.slots c.run_queued.new.self.slots c.run_queued.result c.in-Some.ensures c.run_queued.ensures.queued c.run_queued.ensures.went

pub returns-in-Some-back_to_queue : goal.returns-in-Some-back_to_queue
returns-in-Some-back_to_queue c =
    let fits : SFits w64 c.in-Some-back_to_queue.key = search rules in
    place_relocated c.args.t.0 c.in-Some-back_to_queue.c c.in-Some-back_to_queue.class _ c.in-Some-back_to_queue.key c.args.from c.args.step.now c.args.to c.args.self.now.slots c.requeue.new.self.slots c.requeue.result (to_z-of_z w64 c.in-Some-back_to_queue.key fits) c.in-Some-back_to_queue.ensures c.requeue.ensures.queued c.requeue.ensures.went
