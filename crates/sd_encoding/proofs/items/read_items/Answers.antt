use Rattle.sd_encoding.proofs.ItemLemmas.{goes_on, ends, is_done}
use Rattle.sd_encoding.specs.Reading.{items_at}
use Rattle.sd_encoding.proofs.items.read_items.Goals as goal

pub loop-preserved : goal.loop-preserved
loop-preserved g c =
    rw c.in_ok-push.ensures.items
    (goes_on g.T.Packed.at c.loop.items.items c.args.count c.loop.counter c.loop.rest.now c.in-Some.item c.in-Some.after.now (items_at g.T.Packed.at c.args.count c.args.numbers.now) c.loop-test.true c.in-Some.ensures c.loop.invariant)

pub returns : goal.returns
returns g c =
    rw c.from_vec.ensures
    (is_done g.T.Packed.at c.loop.items.items c.args.count c.loop.counter c.loop.rest.now (items_at g.T.Packed.at c.args.count c.args.numbers.now) c.loop-test.false c.loop.invariant)

pub returns-in_default : goal.returns-in_default
returns-in_default g c =
    ends g.T.Packed.at c.loop.items.items c.args.count c.loop.counter c.loop.rest.now (items_at g.T.Packed.at c.args.count c.args.numbers.now) c.loop-test.true c.in_default.ensures c.loop.invariant
