use Rattle.std.proofs.Common.{sym, ◌∙◌}
use Rattle.std.proofs.lemmas.Bool.{false≢true}
use Rattle.sd_invariants.proofs.Range.{needs_reached}
use Rattle.sd_world.proofs.PlainLemmas.{same_actor}
use Rattle.sd_shared_table.proofs.seat.Seat.make.Goals as goal

pub unreachable-requires : goal.unreachable-requires
unreachable-requires c =
    let m = c.requires.may in
    let needs = needs_reached c.args.work.now c.args.number m.state c.args.self.now.acting.actor.cpu c.args.hints c.args.event m.reached m.next in
    let lack = c.in-Err.ensures.lack in
    absurd (false≢true (sym lack.1 ∙ m.holds c.in-Err.field-0 (lack.0 m.state m.shown needs)))

pub returns-clause-made : goal.returns-clause-made
returns-clause-made c = λ s reached shown next. c.in-Ok.ensures.value s shown (needs_reached c.args.work.now c.args.number s c.args.self.now.acting.actor.cpu c.args.hints c.args.event reached next)

pub returns-clause-has : goal.returns-clause-has
returns-clause-has c = c.in-Ok.ensures.has

pub returns-clause-cpu : goal.returns-clause-cpu
returns-clause-cpu c = same_actor c.args.self.now.acting c.after.new.x c.in-Ok.ensures.has
