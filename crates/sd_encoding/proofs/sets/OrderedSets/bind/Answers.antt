use Rattle.std.specs.Prelude.{◌+◌, ◌<◌, ◌^◌}
use Rattle.sd_machine.specs.Changes.{bind}
use Rattle.sd_state.specs.States.{cpu_of}
use Rattle.sd_encoding.proofs.CanLemmas.{bound_back}
use Rattle.sd_encoding.proofs.ChangeLemmas.{bind_alike}
use Rattle.sd_encoding.specs.declared.ordered.Ordered.{Ordered}
use Rattle.sd_encoding.proofs.ToldLemmas.{does}
use Rattle.sd_encoding.proofs.sets.OrderedSets.bind.Goals as goal

pub returns-clause-value : goal.returns-clause-value
returns-clause-value c =
    let x = c.args.self.now.state in
    let y : Ordered = record { state = c.bind.new.self } in
    does c.args.self.now y c.bind.result (λ s. (cpu_of s c.args.d.0).bound + 1 < 2 ^ 16) (λ s. bind s c.args.t.0 c.args.d) c.bind.ensures.value
    (λ n s h k. bound_back x s h.same c.args.d k) (λ n s h k. bind_alike n n x s h c.args.t.0 c.args.d)
