use Rattle.sd_machine.specs.Threads.{with_lock}
use Rattle.sd_machine.specs.Needs.{IsLock}
use Rattle.sd_encoding.proofs.CanLemmas.{lock_back}
use Rattle.sd_encoding.proofs.ChangeLemmas.{lock_alike}
use Rattle.sd_encoding.specs.declared.ordered.Ordered.{Ordered}
use Rattle.sd_encoding.proofs.ToldLemmas.{does}
use Rattle.sd_encoding.proofs.store.OrderedStore.set_lock.Goals as goal

pub returns-clause-value : goal.returns-clause-value
returns-clause-value c =
    let x = c.args.self.now.state in
    let y : Ordered = record { state = c.set_lock.new.self } in
    does c.args.self.now y c.set_lock.result (λ s. IsLock s c.args.l) (λ s. with_lock s c.args.l.0 c.args.lock) c.set_lock.ensures.value
    (λ n s h k. lock_back x s h.same c.args.l k) (λ n s h k. lock_alike n n x s h c.args.l.0 c.args.lock)
