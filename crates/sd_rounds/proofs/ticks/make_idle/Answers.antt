use Rattle.std.proofs.Common.{ap}
use Rattle.sd_types.specs.declared.events.Event.TheVariants.{Idle as IdleEvent}
use Rattle.sd_world.proofs.PlainLemmas.{can_enter, same_actor, steps}
use Rattle.sd_log.specs.Parts.{zeros_read}
use Rattle.sd_rounds.proofs.ticks.make_idle.Goals as goal

pub enter_idle-requires-clause-can : goal.enter_idle-requires-clause-can
enter_idle-requires-clause-can c = can_enter c.args.work.now c.args.world.now c.requires.stands IdleEvent (zeros_read c.args.zeros) c.requires.few c.requires.next

pub returns-clause-stands : goal.returns-clause-stands
returns-clause-stands c =
    let x = c.args.world.now in
    let made = c.enter_idle.ensures in
    steps c.args.work.now x (record x { acting = c.enter_idle.new.acting; actors = c.enter_idle.new.actors; entries = c.enter_idle.new.entries }) IdleEvent (zeros_read c.args.zeros) c.requires.stands c.requires.next
    made.shown (λ p. ap (λ f. f p) made.has) (same_actor x.acting c.enter_idle.new.acting made.has) made.actors made.entries
