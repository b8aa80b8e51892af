use Rattle.sd_machine.specs.Changes.{leave}
use Rattle.sd_machine.specs.Needs.{RunsOn}
use Rattle.sd_store.specs.Keyless.{IsDestination, place_by}
use Rattle.sd_encoding.proofs.CanLemmas.{destination_back, runs_back}
use Rattle.sd_encoding.proofs.ChangeLemmas.{leave_alike}
use Rattle.sd_encoding.specs.declared.ordered.Ordered.{Ordered}
use Rattle.sd_encoding.proofs.ToldLemmas.{does_by}
use Rattle.sd_encoding.proofs.store.OrderedStore.leave.Goals as goal

pub returns-clause-value : goal.returns-clause-value
returns-clause-value c =
    let x = c.args.self.now.state in
    let y : Ordered = record { state = c.leave.new.self } in
    does_by c.args.number c.args.self.now y c.leave.result (λ s. RunsOn s c.args.t c.args.c × IsDestination s c.args.to) (λ s. leave s c.args.c.0 c.args.t.0 (place_by c.args.number c.args.c c.args.to)) c.leave.ensures.value
    (λ s h k. (runs_back x s h.same c.args.t c.args.c k.0, destination_back x s h.same c.args.to k.1)) (λ s h k. leave_alike c.args.number c.args.number x s h c.args.c c.args.t.0 c.args.to)
