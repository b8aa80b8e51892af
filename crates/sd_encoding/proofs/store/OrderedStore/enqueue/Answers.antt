use Rattle.std.specs.Prelude.{⊤}
use Rattle.sd_machine.specs.Changes.{place_put, with_place}
use Rattle.sd_encoding.proofs.ChangeLemmas.{enqueue_alike}
use Rattle.sd_encoding.specs.declared.ordered.Ordered.{Ordered}
use Rattle.sd_encoding.proofs.ToldLemmas.{does_by}
use Rattle.sd_encoding.proofs.store.OrderedStore.enqueue.Goals as goal

pub returns-clause-value : goal.returns-clause-value
returns-clause-value c =
    let x = c.args.self.now.state in
    let y : Ordered = record { state = c.enqueue.new.self } in
    does_by c.args.number c.args.self.now y c.enqueue.result (λ s. ⊤) (λ s. with_place s c.args.t.0 (place_put c.args.work.now c.args.number c.args.t.0 c.args.at)) c.enqueue.ensures.value
    (λ s h k. k) (λ s h k. enqueue_alike c.args.number c.args.number x s h c.args.work.now c.args.t.0 c.args.at)
