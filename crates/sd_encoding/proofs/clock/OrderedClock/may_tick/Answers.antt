use Rattle.std.proofs.Common.{◌∙◌, refl}
use Rattle.sd_encoding.proofs.TellLemmas.{may_tick_same}
use Rattle.sd_encoding.proofs.clock.OrderedClock.may_tick.Goals as goal

pub returns : goal.returns
returns c n s sh =
    let x = c.args.self.now.state in
    c.may_tick.ensures n x (record { same = refl; small = sh.small }) ∙ may_tick_same x s sh.same c.args.work.now c.args.c.0
