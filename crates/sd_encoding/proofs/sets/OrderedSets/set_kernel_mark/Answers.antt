use Rattle.std.specs.Prelude.{⊤}
use Rattle.sd_machine.specs.Changes.{set_kernel_mark}
use Rattle.sd_encoding.proofs.ChangeLemmas.{kernel_alike}
use Rattle.sd_encoding.specs.declared.ordered.Ordered.{Ordered}
use Rattle.sd_encoding.proofs.ToldLemmas.{does}
use Rattle.sd_encoding.proofs.sets.OrderedSets.set_kernel_mark.Goals as goal

pub returns-clause-value : goal.returns-clause-value
returns-clause-value c =
    let x = c.args.self.now.state in
    let y : Ordered = record { state = c.set_kernel_mark.new.self } in
    does c.args.self.now y c.set_kernel_mark.result (λ s. ⊤) (λ s. set_kernel_mark s c.args.c.0) c.set_kernel_mark.ensures.value
    (λ n s h k. k) (λ n s h k. kernel_alike n n x s h c.args.c.0)
