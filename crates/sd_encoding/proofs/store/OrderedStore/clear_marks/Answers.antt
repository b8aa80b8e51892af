use Rattle.std.specs.Prelude.{⊤}
use Rattle.sd_machine.specs.Changes.{clear_marks}
use Rattle.sd_encoding.proofs.ChangeLemmas.{clear_alike}
use Rattle.sd_encoding.specs.declared.ordered.Ordered.{Ordered}
use Rattle.sd_encoding.proofs.ToldLemmas.{does}
use Rattle.sd_encoding.proofs.store.OrderedStore.clear_marks.Goals as goal

pub returns-clause-value : goal.returns-clause-value
returns-clause-value c =
    let x = c.args.self.now.state in
    let y : Ordered = record { state = c.clear_marks.new.self } in
    does c.args.self.now y c.clear_marks.result (λ s. ⊤) (λ s. clear_marks s c.args.c.0) c.clear_marks.ensures.value
    (λ n s h k. k) (λ n s h k. clear_alike n n x s h c.args.c.0)
