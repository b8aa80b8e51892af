use Rattle.std.proofs.Common.{arith}
use Rattle.sd_encoding.proofs.ItemLemmas.{goes_on, ends, is_done}
use Rattle.sd_encoding.specs.Reading.{items_at}
use Rattle.sd_encoding.proofs.arrays.read_array.Goals as goal

pub loop-preserved : goal.loop-preserved
loop-preserved g c = record {
  read = rw c.push.ensures.items
      (goes_on g.T.Packed.at c.loop.items.items c.args.count c.loop.counter c.loop.rest.now c.in_ok-item.item c.in_ok-item.after.now (items_at g.T.Packed.at c.args.count c.args.numbers.now) c.loop-test.true c.in_ok-item.ensures c.loop.invariant.read);
  length = omega (arith, c.push.ensures.len, c.loop.invariant.length);
}

pub push-requires : goal.push-requires
push-requires g c = (omega arith, omega (arith, c.loop.invariant.length, c.requires, c.loop-test.true))

pub returns : goal.returns
returns g c = is_done g.T.Packed.at c.loop.items.items c.args.count c.loop.counter c.loop.rest.now (items_at g.T.Packed.at c.args.count c.args.numbers.now) c.loop-test.false c.loop.invariant.read

pub returns-in_err-item : goal.returns-in_err-item
returns-in_err-item g c =
    rw c.from_residual.ensures
    (ends g.T.Packed.at c.loop.items.items c.args.count c.loop.counter c.loop.rest.now (items_at g.T.Packed.at c.args.count c.args.numbers.now) c.loop-test.true c.in_err-item.ensures c.loop.invariant.read)
