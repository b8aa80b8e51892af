use Rattle.std.specs.Prelude.{⊤}
use Rattle.sd_machine.specs.Changes.{set_mark}
use Rattle.sd_encoding.proofs.ChangeLemmas.{mark_alike}
use Rattle.sd_encoding.specs.declared.ordered.Ordered.{Ordered}
use Rattle.sd_encoding.proofs.ToldLemmas.{does}
use Rattle.sd_encoding.proofs.store.OrderedStore.set_mark.Goals as goal

pub returns-clause-value : goal.returns-clause-value
returns-clause-value c =
    let x = c.args.self.now.state in
    let y : Ordered = record { state = c.set_mark.new.self } in
    does c.args.self.now y c.set_mark.result (λ s. ⊤) (λ s. set_mark s c.args.c.0 c.args.m) c.set_mark.ensures.value
    (λ n s h k. k) (λ n s h k. mark_alike n n x s h c.args.c.0 c.args.m)
