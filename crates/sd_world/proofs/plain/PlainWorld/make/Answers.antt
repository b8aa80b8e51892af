use Rattle.std.proofs.Common.{ap}
use Rattle.sd_world.proofs.PlainLemmas.{can_enter, same_actor, steps}
use Rattle.sd_world.proofs.plain.PlainWorld.make.Goals as goal

pub enter-requires-clause-can : goal.enter-requires-clause-can
enter-requires-clause-can c = can_enter c.args.work.now c.args.self.now c.requires.stands c.args.event c.args.hints.now c.requires.few c.requires.next

pub returns-clause-stands : goal.returns-clause-stands
returns-clause-stands c =
    let x = c.args.self.now in
    let made = c.enter.ensures in
    steps c.args.work.now x (record x { acting = c.enter.new.acting; actors = c.enter.new.actors; entries = c.enter.new.entries }) c.args.event c.args.hints.now c.requires.stands c.requires.next
    made.shown (λ p. ap (λ f. f p) made.has) (same_actor x.acting c.enter.new.acting made.has) made.actors made.entries

pub returns-clause-entries : goal.returns-clause-entries
returns-clause-entries c = c.enter.ensures.entries

pub returns-clause-cpu : goal.returns-clause-cpu
returns-clause-cpu c = same_actor c.args.self.now.acting c.enter.new.acting c.enter.ensures.has

pub returns-clause-has : goal.returns-clause-has
returns-clause-has c = c.enter.ensures.has
