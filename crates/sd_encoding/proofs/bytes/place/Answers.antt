use Rattle.std.proofs.Common.{◌-◌, ◌/◌, drop, ◌∙◌, arith}
use Rattle.sd_encoding.proofs.ByteLemmas.{goes_on, places_last, room_ended}
use Rattle.sd_encoding.proofs.bytes.place.Goals as goal

pub returns-then-byte-lt-GOES_ON-clause-spelled : goal.returns-then-byte-lt-GOES_ON-clause-spelled
returns-then-byte-lt-GOES_ON-clause-spelled c = rw c.from.ensures (places_last c.args.byte c.args.at (c.args.at - c.args.byte / 32 - 1) c.args.numbers.now c.if-byte-lt-GOES_ON.true (room_ended c.args.byte c.args.at c.if-byte-lt-GOES_ON.true c.requires.room) c.requires.within c.requires.zeros (omega arith))

pub returns-clause-spelled : goal.returns-clause-spelled
returns-clause-spelled c = (rw c.from-2.ensures at c.place_more.ensures.spelled) ∙ goes_on c.args.byte (drop c.args.at c.args.numbers.now) c.if-byte-lt-GOES_ON.false
