use Rattle.std.proofs.Common.{◌+◌, subst}
use Rattle.sd_machine.specs.Changes.{set_duty}
use Rattle.sd_hand.specs.Acting.{IsShown}
use Rattle.sd_hand.specs.Later.{shown_later}
use Rattle.sd_hand.proofs.store.ActingStore.begin_rouse.Goals as goal

pub returns-in-Ok-clause-value : goal.returns-in-Ok-clause-value
returns-in-Ok-clause-value c s sh t =
    let n = c.args.number in
    subst (λ d. IsShown c.give.new.self (n + 1) (set_duty s c.args.c.0 d)) c.rouse.ensures
    (shown_later c.give.new.self n (set_duty s c.args.c.0 c.rouse.result) (c.in-Ok.ensures.value n s sh t))
