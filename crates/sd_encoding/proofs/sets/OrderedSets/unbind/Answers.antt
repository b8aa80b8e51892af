use Rattle.std.specs.Prelude.{⊤}
use Rattle.sd_machine.specs.Changes.{unbind}
use Rattle.sd_encoding.proofs.ChangeLemmas.{unbind_alike}
use Rattle.sd_encoding.specs.declared.ordered.Ordered.{Ordered}
use Rattle.sd_encoding.proofs.ToldLemmas.{does}
use Rattle.sd_encoding.proofs.sets.OrderedSets.unbind.Goals as goal

pub returns-clause-value : goal.returns-clause-value
returns-clause-value c =
    let x = c.args.self.now.state in
    let y : Ordered = record { state = c.unbind.new.self } in
    does c.args.self.now y c.unbind.result (λ s. ⊤) (λ s. unbind s c.args.t.0 c.args.b) c.unbind.ensures.value
    (λ n s h k. k) (λ n s h k. unbind_alike n n x s h c.args.t.0 c.args.b)
