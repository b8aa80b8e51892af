use Rattle.std.proofs.Common.{refl}
use Rattle.sd_hand.specs.declared.acting.Acting.{Acting}
use Rattle.sd_hand.proofs.ActLemmas.{view_carried, viewed_has}
use Rattle.sd_hand.proofs.acting.Acting.set_view.Goals as goal

pub returns-clause-value : goal.returns-clause-value
returns-clause-value c n s z sh is count duty =
    let y : Acting = record c.args.self.now { hand = c.set_view.new.self } in
    view_carried c.args.self.now y n s c.args.c c.args.view z refl c.set_view.ensures sh is count duty

pub returns-clause-has : goal.returns-clause-has
returns-clause-has c =
    let y : Acting = record c.args.self.now { hand = c.set_view.new.self } in
    viewed_has c.args.self.now y c.args.c c.args.view refl c.set_view.ensures
