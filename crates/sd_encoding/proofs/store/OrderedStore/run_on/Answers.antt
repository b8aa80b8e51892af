use Rattle.sd_machine.specs.Changes.{run_on}
use Rattle.sd_machine.specs.Needs.{RunsNobody}
use Rattle.sd_encoding.proofs.CanLemmas.{free_back}
use Rattle.sd_encoding.proofs.ChangeLemmas.{run_alike}
use Rattle.sd_encoding.specs.declared.ordered.Ordered.{Ordered}
use Rattle.sd_encoding.proofs.ToldLemmas.{does}
use Rattle.sd_encoding.proofs.store.OrderedStore.run_on.Goals as goal

pub returns-clause-value : goal.returns-clause-value
returns-clause-value c =
    let x = c.args.self.now.state in
    let y : Ordered = record { state = c.run_on.new.self } in
    does c.args.self.now y c.run_on.result (λ s. RunsNobody s c.args.c) (λ s. run_on s c.args.t.0 c.args.c) c.run_on.ensures.value
    (λ n s h k. free_back x s h.same c.args.c k) (λ n s h k. run_alike n n x s h c.args.t.0 c.args.c)
