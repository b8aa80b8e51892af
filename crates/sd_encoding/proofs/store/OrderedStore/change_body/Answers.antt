use Rattle.sd_machine.specs.Changes.{with_body}
use Rattle.sd_store.specs.Bodies.{CanChange, changed}
use Rattle.sd_state.specs.States.{thread_of}
use Rattle.sd_encoding.proofs.CanLemmas.{change_back}
use Rattle.sd_encoding.proofs.ChangeLemmas.{body_alike}
use Rattle.sd_encoding.specs.declared.ordered.Ordered.{Ordered}
use Rattle.sd_encoding.proofs.ToldLemmas.{does}
use Rattle.sd_encoding.proofs.store.OrderedStore.change_body.Goals as goal

pub returns-clause-value : goal.returns-clause-value
returns-clause-value c =
    let x = c.args.self.now.state in
    let y : Ordered = record { state = c.change_body.new.self } in
    does c.args.self.now y c.change_body.result (λ s. CanChange c.args.work.now c.args.t c.args.change s) (λ s. with_body s c.args.t.0 (changed c.args.work.now c.args.t.0 c.args.change (thread_of s c.args.t.0).body)) c.change_body.ensures.value
    (λ n s h k. change_back x s h.same c.args.work.now c.args.t c.args.change k) (λ n s h k. body_alike n n x s h c.args.t.0 (changed c.args.work.now c.args.t.0 c.args.change))
