use Rattle.std.proofs.Common.{true, refl, ap}
use Rattle.sd_state.specs.States.{cpu_of}
use Rattle.sd_store.specs.declared.parts.CpuView.{CpuView}
use Rattle.sd_machine.specs.Changes.{set_kernel_mark}
use Rattle.sd_hand.proofs.TellLemmas.{view_is}
use Rattle.sd_hand.proofs.sets.ActingSets.set_kernel_mark.Goals as goal

pub returns-in-Ok-clause-value : goal.returns-in-Ok-clause-value
unfolding set_kernel_mark
returns-in-Ok-clause-value c n s sh t =
    let a = c.in-Ok.ensures in
    let x = cpu_of s c.args.c.0 in
    c.set_view.ensures.value n s (record x { kernel = true }) sh (ap (λ (v : CpuView). record v { kernel = true }) (view_is c.args.self.now n s c.args.c c.in-Ok.view a.0 sh a.1 a.2)) refl refl
