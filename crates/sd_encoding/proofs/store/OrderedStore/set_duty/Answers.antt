use Rattle.std.specs.Prelude.{⊤}
use Rattle.sd_machine.specs.Changes.{set_duty}
use Rattle.sd_store.specs.Keyless.{duty_of}
use Rattle.sd_encoding.proofs.ChangeLemmas.{duty_alike_after}
use Rattle.sd_encoding.specs.declared.ordered.Ordered.{Ordered}
use Rattle.sd_encoding.proofs.ToldLemmas.{does}
use Rattle.sd_encoding.proofs.store.OrderedStore.set_duty.Goals as goal

pub returns-clause-value : goal.returns-clause-value
returns-clause-value c =
    let x = c.args.self.now.state in
    let y : Ordered = record { state = c.set_duty.new.self } in
    does c.args.self.now y c.set_duty.result (λ s. ⊤) (λ s. set_duty s c.args.c.0 (duty_of c.args.chore)) c.set_duty.ensures.value
    (λ n s h k. k) (λ n s h k. duty_alike_after n n x s h c.args.c.0 c.args.chore)
