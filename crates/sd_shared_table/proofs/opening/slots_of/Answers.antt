use Rattle.sd_shared_rule.specs.Places.{sizes}
use Rattle.sd_shared_table.proofs.OpeningLemmas.{lays_first, lays_next, left_there}
use Rattle.sd_shared_table.proofs.opening.slots_of.Goals as goal

pub loop-i-init : goal.loop-i-init
loop-i-init c = lays_first (sizes c.args.work.now) c.args.hand.now.slots c.new-slots.result.items c.new-slots.ensures.items

pub loop-i-preserved : goal.loop-i-preserved
loop-i-preserved c =
    lays_next (sizes c.args.work.now) c.args.hand.now.slots c.loop-i.hand.slots c.release.new.self.slots c.loop-i.i c.loop-i.slots.items c.push.new.self.items c.number_in.result c.in-Some.home c.loop-i.invariant
    c.number_in.ensures c.in-Some.ensures.some.0 c.in-Some.ensures.some.1 c.in_ok-push-in-Some.ensures.items

pub unreachable-requires : goal.unreachable-requires
unreachable-requires c =
    left_there (sizes c.args.work.now) c.args.hand.now.slots c.loop-i.hand.slots c.loop-i.i c.loop-i.slots.items c.number_in.result c.loop-i.invariant c.number_in.ensures c.requires.all c.in-None.ensures.none.0
