use Rattle.std.proofs.Common.{None, ap}
use Rattle.sd_types.specs.declared.events.Event.TheVariants.{Tick as TickEvent}
use Rattle.sd_world.proofs.PlainLemmas.{can_enter, same_actor, steps}
use Rattle.sd_rounds.proofs.ticks.make_tick.Goals as goal

pub enter_tick-requires-clause-can : goal.enter_tick-requires-clause-can
enter_tick-requires-clause-can c = can_enter c.args.work.now c.args.world.now c.requires.stands (TickEvent c.args.t) None c.requires.few c.requires.next

pub returns-clause-stands : goal.returns-clause-stands
returns-clause-stands c =
    let x = c.args.world.now in
    let made = c.enter_tick.ensures in
    steps c.args.work.now x (record x { acting = c.enter_tick.new.acting; actors = c.enter_tick.new.actors; entries = c.enter_tick.new.entries }) (TickEvent c.args.t) None c.requires.stands c.requires.next
    made.shown (λ p. ap (λ f. f p) made.has) (same_actor x.acting c.enter_tick.new.acting made.has) made.actors made.entries
