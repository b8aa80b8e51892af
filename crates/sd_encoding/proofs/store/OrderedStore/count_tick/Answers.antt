use Rattle.sd_machine.specs.Changes.{count_tick}
use Rattle.sd_machine.specs.Needs.{CanTick}
use Rattle.sd_encoding.proofs.CanLemmas.{tick_back}
use Rattle.sd_encoding.proofs.ChangeLemmas.{count_alike}
use Rattle.sd_encoding.specs.declared.ordered.Ordered.{Ordered}
use Rattle.sd_encoding.proofs.ToldLemmas.{does}
use Rattle.sd_encoding.proofs.store.OrderedStore.count_tick.Goals as goal

pub returns-clause-value : goal.returns-clause-value
returns-clause-value c =
    let x = c.args.self.now.state in
    let y : Ordered = record { state = c.count_tick.new.self } in
    does c.args.self.now y c.count_tick.result (λ s. CanTick c.args.work.now s c.args.c) (λ s. count_tick c.args.work.now s c.args.c.0) c.count_tick.ensures.value
    (λ n s h k. tick_back x s h.same c.args.work.now c.args.c k) (λ n s h k. count_alike n n x s h c.args.work.now c.args.c.0)
