use Rattle.std.proofs.Common.{◌%◌, refl}
use Rattle.sd_types.specs.declared.numbers.HomeId.TheVariants.{Sleepers}
use Rattle.sd_hand.specs.declared.acting.Acting.{Acting}
use Rattle.sd_hand.proofs.ActLemmas.{count_carried, counted_has}
use Rattle.sd_hand.proofs.sets.ActingSets.set_tokens.Goals as goal

pub returns-in-Ok-clause-value : goal.returns-in-Ok-clause-value
returns-in-Ok-clause-value c n s sh inside =
    let y : Acting = record c.args.self.now { hand = c.set_tokens.new.self } in
    count_carried c.args.self.now y n s c.args.k c.args.n refl c.set_tokens.ensures inside sh

pub returns-in-Ok-clause-has : goal.returns-in-Ok-clause-has
returns-in-Ok-clause-has c =
    let y : Acting = record c.args.self.now { hand = c.set_tokens.new.self } in
    counted_has c.args.self.now y (Sleepers (c.args.k.0 % 64)) c.args.k.0 c.args.n refl c.set_tokens.ensures
