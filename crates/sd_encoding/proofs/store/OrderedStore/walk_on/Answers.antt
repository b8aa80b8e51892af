use Rattle.std.specs.Prelude.{⊤}
use Rattle.sd_store.specs.Walks.{walk_gone_on}
use Rattle.sd_encoding.proofs.ChangeLemmas.{gone_alike}
use Rattle.sd_encoding.specs.declared.ordered.Ordered.{Ordered}
use Rattle.sd_encoding.proofs.ToldLemmas.{does}
use Rattle.sd_encoding.proofs.store.OrderedStore.walk_on.Goals as goal

pub returns-clause-value : goal.returns-clause-value
returns-clause-value c =
    let x = c.args.self.now.state in
    let y : Ordered = record { state = c.walk_on.new.self } in
    does c.args.self.now y c.walk_on.result (λ s. ⊤) (λ s. walk_gone_on s c.args.c c.args.o) c.walk_on.ensures.value
    (λ n s h k. k) (λ n s h k. gone_alike n n x s h c.args.c c.args.o)
