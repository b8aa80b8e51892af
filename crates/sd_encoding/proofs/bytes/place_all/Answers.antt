use Rattle.std.proofs.Common.{◌-◌, arith, drop, length, Some, None}
use Rattle.std.proofs.lemmas.List.{take_all}
use Rattle.sd_encoding.proofs.ByteLemmas.{one_before, none_stays, at_end, room_before}
use Rattle.sd_encoding.proofs.bytes.place_all.Goals as goal

pub loop-index-init : goal.loop-index-init
loop-index-init c = record { read = at_end c.args.bytes.now c.args.numbers.now; zeros = c.requires.zeros; room = rw (take_all (length c.args.bytes.now) c.args.bytes.now (omega arith)) c.requires.room; within = omega arith; inside = omega arith }

pub loop-index-preserved : goal.loop-index-preserved
loop-index-preserved c = record {
  read = one_before c.args.bytes.now (drop c.loop-index.at c.loop-index.numbers) c.loop-index.index (Some (drop c.in-Some.from c.place.new.numbers)) c.loop-index-test.true c.loop-index.invariant.inside c.loop-index.invariant.read c.in-Some.ensures.spelled;
  zeros = c.in-Some.ensures.zeros;
  room = let room = c.loop-index.invariant.room in let used = c.in-Some.ensures.room in let before = room_before c.args.bytes.now c.loop-index.index c.loop-index-test.true c.loop-index.invariant.inside in omega (arith, room, used, before);
  within = c.in-Some.ensures.within;
  inside = omega arith;
}

pub returns-in_default-clause-spelled : goal.returns-in_default-clause-spelled
returns-in_default-clause-spelled c =
    none_stays (c.loop-index.index - 1) c.args.bytes.now
    (one_before c.args.bytes.now (drop c.loop-index.at c.loop-index.numbers) c.loop-index.index None c.loop-index-test.true c.loop-index.invariant.inside c.loop-index.invariant.read c.in_default.ensures.spelled)

pub place-requires-clause-room : goal.place-requires-clause-room
place-requires-clause-room c =
    let room = c.loop-index.invariant.room in
    let before = room_before c.args.bytes.now c.loop-index.index c.loop-index-test.true c.loop-index.invariant.inside in
    omega (arith, room, before)
