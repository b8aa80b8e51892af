use Rattle.sd_machine.specs.Changes.{join}
use Rattle.sd_machine.specs.Needs.{CanJoin}
use Rattle.sd_encoding.proofs.CanLemmas.{join_back}
use Rattle.sd_encoding.proofs.ChangeLemmas.{join_alike}
use Rattle.sd_encoding.specs.declared.ordered.Ordered.{Ordered}
use Rattle.sd_encoding.proofs.ToldLemmas.{does}
use Rattle.sd_encoding.proofs.sets.OrderedSets.join.Goals as goal

pub returns-clause-value : goal.returns-clause-value
returns-clause-value c =
    let x = c.args.self.now.state in
    let y : Ordered = record { state = c.join.new.self } in
    does c.args.self.now y c.join.result (λ s. CanJoin s c.args.set) (λ s. join s c.args.c c.args.set) c.join.ensures.value
    (λ n s h k. join_back x s h.same c.args.set k) (λ n s h k. join_alike n n x s h c.args.c c.args.set)
