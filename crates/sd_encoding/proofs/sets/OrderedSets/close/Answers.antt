use Rattle.std.specs.Prelude.{⊤}
use Rattle.sd_machine.specs.Changes.{close}
use Rattle.sd_encoding.proofs.ChangeLemmas.{close_alike}
use Rattle.sd_encoding.specs.declared.ordered.Ordered.{Ordered}
use Rattle.sd_encoding.proofs.ToldLemmas.{does}
use Rattle.sd_encoding.proofs.sets.OrderedSets.close.Goals as goal

pub returns-clause-value : goal.returns-clause-value
returns-clause-value c =
    let x = c.args.self.now.state in
    let y : Ordered = record { state = c.close.new.self } in
    does c.args.self.now y c.close.result (λ s. ⊤) (λ s. close s c.args.d c.args.to) c.close.ensures.value
    (λ n s h k. k) (λ n s h k. close_alike n n x s h c.args.d c.args.to)
