use Rattle.std.proofs.Common.{subst}
use Rattle.std.specs.Prelude.{⊤}
use Rattle.sd_machine.specs.Changes.{set_duty}
use Rattle.sd_store.specs.Words.{Does}
use Rattle.sd_hand.specs.Acting.{IsShown}
use Rattle.sd_hand.proofs.store.ActingStore.set_duty.Goals as goal

pub returns-clause-value : goal.returns-clause-value
returns-clause-value c =
    subst (λ d. Does (IsShown c.args.self.now) (IsShown c.give.new.self) c.give.result (λ s. ⊤) (λ s. set_duty s c.args.c.0 d)) c.duty_of.ensures c.give.ensures.value
