use Rattle.sd_encoding.proofs.ByteLemmas.{places_more, places_nothing, places_too_much}
use Rattle.sd_encoding.proofs.bytes.place_more.Goals as goal

pub returns-then-at-numbers-clause-spelled : goal.returns-then-at-numbers-clause-spelled
returns-then-at-numbers-clause-spelled c = places_nothing c.args.low c.args.at c.args.numbers.now c.args.numbers.now c.if-at-numbers.true

pub returns-in_default-clause-spelled : goal.returns-in_default-clause-spelled
returns-in_default-clause-spelled c = places_too_much c.args.low c.args.at c.args.numbers.now c.args.numbers.now c.if-at-numbers.false c.in_default.ensures

pub returns-clause-spelled : goal.returns-clause-spelled
returns-clause-spelled c = places_more c.args.low c.args.at c.in-Some.number c.args.numbers.now c.if-at-numbers.false c.in-Some.ensures
