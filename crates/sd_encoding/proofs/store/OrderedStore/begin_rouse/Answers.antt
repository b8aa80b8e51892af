use Rattle.std.specs.Prelude.{⊤}
use Rattle.sd_machine.specs.Changes.{back_key, set_duty}
use Rattle.sd_types.specs.declared.events.Duty.TheVariants.{Rouse}
use Rattle.sd_encoding.proofs.ChangeLemmas.{rouse_alike}
use Rattle.sd_encoding.specs.declared.ordered.Ordered.{Ordered}
use Rattle.sd_encoding.proofs.ToldLemmas.{does_by}
use Rattle.sd_encoding.proofs.store.OrderedStore.begin_rouse.Goals as goal

pub returns-clause-value : goal.returns-clause-value
returns-clause-value c =
    let x = c.args.self.now.state in
    let y : Ordered = record { state = c.begin_rouse.new.self } in
    does_by c.args.number c.args.self.now y c.begin_rouse.result (λ s. ⊤) (λ s. set_duty s c.args.c.0 (Rouse c.args.k (back_key c.args.number))) c.begin_rouse.ensures.value
    (λ s h k. k) (λ s h k. rouse_alike c.args.number c.args.number x s h c.args.c.0 c.args.k)
