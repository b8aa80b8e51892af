use Rattle.std.proofs.Common.{refl, sym}
use Rattle.sd_state.specs.States.{thread_of}
use Rattle.sd_homes.specs.Standing.{record_of}
use Rattle.sd_hand.specs.Steps.{stepped}
use Rattle.sd_hand.specs.declared.acting.Acting.{Acting}
use Rattle.sd_hand.proofs.ActLemmas.{move_carried, same_has}
use Rattle.sd_hand.proofs.MoveLemmas.{taken}
use Rattle.sd_hand.proofs.acting.Acting.relocate.Goals as goal

pub returns-clause-value : goal.returns-clause-value
returns-clause-value c n m s z sh le at is list rec may there =
    let x = c.args.self.now in
    let y : Acting = record x { hand = c.relocate.new.self } in
    let r = record_of c.args.t.0 (thread_of s c.args.t.0) in
    move_carried x y n m s c.args.t.0 c.args.from c.args.to z (stepped c.args.step r) refl
    (c.relocate.ensures.moved r (sym (taken n s c.args.t.0 c.args.from x.hand.slots at sh.homes is)))
    (c.relocate.ensures.apart sh.apart) le at list rec may there sh

pub returns-clause-has : goal.returns-clause-has
returns-clause-has c is there room =
    let y : Acting = record c.args.self.now { hand = c.relocate.new.self } in
    same_has c.args.self.now y refl c.relocate.ensures.homes (c.relocate.ensures.threads is there room)
