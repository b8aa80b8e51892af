use Rattle.std.proofs.Common.{◌%◌, refl}
use Rattle.sd_types.specs.declared.numbers.HomeId.TheVariants.{Chain}
use Rattle.sd_hand.specs.declared.acting.Acting.{Acting}
use Rattle.sd_hand.proofs.ActLemmas.{lock_carried, locked_has}
use Rattle.sd_hand.proofs.store.ActingStore.set_lock.Goals as goal

pub returns-in-Ok-clause-value : goal.returns-in-Ok-clause-value
returns-in-Ok-clause-value c n s sh inside =
    let y : Acting = record c.args.self.now { hand = c.set_lock.new.self } in
    lock_carried c.args.self.now y n s c.args.l c.args.lock refl c.set_lock.ensures inside sh

pub returns-in-Ok-clause-has : goal.returns-in-Ok-clause-has
returns-in-Ok-clause-has c =
    let y : Acting = record c.args.self.now { hand = c.set_lock.new.self } in
    locked_has c.args.self.now y (Chain (c.args.l.0 % 64)) c.args.l.0 c.args.lock refl c.set_lock.ensures
