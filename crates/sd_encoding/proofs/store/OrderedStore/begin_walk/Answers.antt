use Rattle.std.specs.Prelude.{⊤}
use Rattle.sd_store.specs.Walks.{walk_begun}
use Rattle.sd_encoding.proofs.ChangeLemmas.{begun_alike}
use Rattle.sd_encoding.specs.declared.ordered.Ordered.{Ordered}
use Rattle.sd_encoding.proofs.ToldLemmas.{does}
use Rattle.sd_encoding.proofs.store.OrderedStore.begin_walk.Goals as goal

pub returns-clause-value : goal.returns-clause-value
returns-clause-value c =
    let x = c.args.self.now.state in
    let y : Ordered = record { state = c.begin_walk.new.self } in
    does c.args.self.now y c.begin_walk.result (λ s. ⊤) (λ s. walk_begun s c.args.c c.args.t) c.begin_walk.ensures.value
    (λ n s h k. k) (λ n s h k. begun_alike n n x s h c.args.c c.args.t)
